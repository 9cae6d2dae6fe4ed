-- A class of the program: what is said of it is said of the class that its line names, and of the answer with a state of it.
use Rattle.std.specs.Prelude.{◌≡◌, ℕ, List, Option, Result, refl}
use Rattle.spg_io.specs.Held.{Holding}
use Rattle.spg_opclass.specs.Meaning.{Meaning}
use Rattle.spg_opclass.specs.Included.{with_meaning}
use Rattle.spg_quad.specs.Quad.{quad_meaning}
use Rattle.spg_kd.specs.Kd.{kd_meaning}
use Rattle.spg_radix.specs.Radix.{radix_meaning}
use Rattle.spg_range.specs.Class.{range_meaning}
use Rattle.spg_core.specs.Seen.{Seen}
use Rattle.spg_script.specs.declared.class_line.ClassLine.{ClassLine}
use Rattle.spg_script.specs.declared.class_line.ClassLine.TheVariants as line
use Rattle.spg_script.specs.declared.inserts.Insert.{Insert}
use Rattle.spg_script.specs.declared.sequence.Sequence.{Sequence}
use Rattle.spg_script.specs.declared.key_form.KeyForm.TheVariants as form
use Rattle.spg_script.specs.Blocks.{Script}
use Rattle.spg_script.specs.Line.{keys_of}
use Rattle.spg_script.specs.Speech.{Speech, Knows, point_speech, text_speech, point_value_speech, text_value_speech, range_speech}
use Rattle.spg_script.specs.Speaking.{command_known, point_knows, text_knows, value_knows, range_knows}
use Rattle.spg_create.specs.declared.whole.Created.{Created}
use Rattle.spg_create.specs.declared.refused.CreateRefused.{CreateRefused}
use Rattle.spg_create.specs.Creates.{Creates}
use Rattle.spg_histories.specs.declared.status.Status.{Status}
use Rattle.spg_perform.specs.Session.{IsOfClass, Outside}
use Rattle.spg_app.specs.declared.end_state.EndState.{EndState}
use Rattle.spg_app.specs.declared.end_state.EndState.TheVariants as state
use Rattle.spg_app.specs.Classes.{ClassOf, class_told, class_at, state_of}
use Rattle.spg_app.specs.Beginning.{IsUnbegun}
use Rattle.spg_app.specs.Ending.{Outlets, RanCommands, RanScript}
use Rattle.spg_app.specs.Loads.{RanLoad, LoadedTo}
use Rattle.spg_app.specs.Standbys.{Sunk, RanMirrored, MirroredTo}

pub record IsClass {O Key Recon Cond : Type 0} (m : Meaning Key Recon Cond) (speech : Speech Key Cond) (code : ℕ) (line : ClassLine) (answer : Seen O Key Recon Cond → EndState) : Type 0 where
  -- it has the keys and conditions of scripts with its line
  pub known : IsOfClass speech line
  pub unbegun : (limit : ℕ) (from : Option (List ℕ)) (old now : Outside) (status : Status) → IsUnbegun m code limit from old now status → IsUnbegun (class_at line).meaning (class_at line).code limit from old now status
  pub created : (rows : List Insert) (name : List ℕ) (old now : Option Holding) (f g : ℕ) (result : Result Created CreateRefused) → Creates m speech code rows name old now f g result
      → Creates (class_at line).meaning (class_at line).speech (class_at line).code rows name old now f g result
  pub ran : (limit : ℕ) (from : Option (List ℕ)) (script : Script) (out : Outlets) (status : Status) (seen : Seen O Key Recon Cond) → script.class ≡ line → RanCommands m speech code limit from script out status seen
      → RanScript limit from script out status (state_of (answer seen))
  pub loaded : (script : Script) (out : Outlets) (status : Status) (seen : Seen O Key Recon Cond) → script.class ≡ line → RanLoad m speech code script out status seen → LoadedTo script out status (state_of (answer seen))
  pub mirrored : (limit lag : ℕ) (s : Sequence) (out : Sunk) (status : Status) (seen : Seen O Key Recon Cond) → s.class ≡ line → RanMirrored m speech limit lag s out status seen → MirroredTo limit lag s out status (state_of (answer seen))

module _ {O Key Recon Cond : Type 0} (m : Meaning Key Recon Cond) (speech : Speech Key Cond) (code : ℕ) (class : ClassLine) (answer : Seen O Key Recon Cond → EndState) where
  -- the list of classes has it under its line
  abbrev IsListed : Type 1
  IsListed = (P : ClassOf → Type 0) → P (class_told m speech code) → P (class_at class)

  -- and the answer is a state under this line
  abbrev IsAnswer : Type 1
  IsAnswer = (P : (c : ClassOf) → ClassLine → (O : Type 0) → Seen O c.Key c.Recon c.Cond → Type 0) (seen : Seen O Key Recon Cond) → P (class_told m speech code) class O seen
      → P (class_at (state_of (answer seen)).line) (state_of (answer seen)).line (state_of (answer seen)).O (state_of (answer seen)).seen

  is_class : Knows (keys_of class) speech → IsListed → IsAnswer → IsClass m speech code class answer
  is_class knows listed answers = record {
    known = command_known (keys_of class) speech knows;
    unbegun = λ limit from old now status u. listed (λ c. IsUnbegun c.meaning c.code limit from old now status) u;
    created = λ rows name old now f g result u. listed (λ c. Creates c.meaning c.speech c.code rows name old now f g result) u;
    ran = λ limit from script out status seen same u. answers (λ c line O seen. (script.class ≡ line) × RanCommands c.meaning c.speech c.code limit from script out status seen) seen (same, u);
    loaded = λ script out status seen same u. answers (λ c line O seen. (script.class ≡ line) × RanLoad c.meaning c.speech c.code script out status seen) seen (same, u);
    mirrored = λ limit lag s out status seen same u. answers (λ c line O seen. (s.class ≡ line) × RanMirrored c.meaning c.speech limit lag s out status seen) seen (same, u);
  }

pub quad_is : IsClass quad_meaning point_speech 1 line.Quad (λ seen. state.Quad seen)
quad_is = is_class quad_meaning point_speech 1 line.Quad (λ seen. state.Quad seen) point_knows (λ P u. u) (λ P seen u. u)

pub kd_is : IsClass kd_meaning point_speech 2 line.Kd (λ seen. state.Kd seen)
kd_is = is_class kd_meaning point_speech 2 line.Kd (λ seen. state.Kd seen) point_knows (λ P u. u) (λ P seen u. u)

pub radix_is : IsClass radix_meaning text_speech 3 line.Radix (λ seen. state.Radix seen)
radix_is = is_class radix_meaning text_speech 3 line.Radix (λ seen. state.Radix seen) text_knows (λ P u. u) (λ P seen u. u)

pub quad_value_is : IsClass (with_meaning quad_meaning) point_value_speech 17 line.QuadValue (λ seen. state.QuadValue seen)
quad_value_is = is_class (with_meaning quad_meaning) point_value_speech 17 line.QuadValue (λ seen. state.QuadValue seen) (value_knows form.Point point_speech refl point_knows) (λ P u. u) (λ P seen u. u)

pub kd_value_is : IsClass (with_meaning kd_meaning) point_value_speech 18 line.KdValue (λ seen. state.KdValue seen)
kd_value_is = is_class (with_meaning kd_meaning) point_value_speech 18 line.KdValue (λ seen. state.KdValue seen) (value_knows form.Point point_speech refl point_knows) (λ P u. u) (λ P seen u. u)

pub radix_value_is : IsClass (with_meaning radix_meaning) text_value_speech 19 line.RadixValue (λ seen. state.RadixValue seen)
radix_value_is = is_class (with_meaning radix_meaning) text_value_speech 19 line.RadixValue (λ seen. state.RadixValue seen) (value_knows form.Text text_speech refl text_knows) (λ P u. u) (λ P seen u. u)

pub range_is : IsClass range_meaning range_speech 4 line.Range (λ seen. state.Range seen)
range_is = is_class range_meaning range_speech 4 line.Range (λ seen. state.Range seen) range_knows (λ P u. u) (λ P seen u. u)
