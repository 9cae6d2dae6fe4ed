-- The classes of scripts: what each means, how it speaks, and its number in an image. This is the one list of them.
use Rattle.std.specs.Prelude.{ℕ}
use Rattle.spg_opclass.specs.Meaning.{Meaning}
use Rattle.spg_opclass.specs.Included.{with_meaning}
use Rattle.spg_quad.specs.Quad.{quad_meaning}
use Rattle.spg_kd.specs.Kd.{kd_meaning}
use Rattle.spg_radix.specs.Radix.{radix_meaning}
use Rattle.spg_range.specs.Class.{range_meaning}
use Rattle.spg_core.specs.Seen.{Seen}
use Rattle.spg_script.specs.declared.class_line.ClassLine.{ClassLine}
use Rattle.spg_script.specs.declared.class_line.ClassLine.TheVariants as line
use Rattle.spg_script.specs.Speech.{Speech, point_speech, text_speech, point_value_speech, text_value_speech, range_speech}
use Rattle.spg_app.specs.declared.end_state.EndState.{EndState}
use Rattle.spg_app.specs.declared.end_state.EndState.TheVariants as state

-- what is told of a class
pub record ClassOf : Type 1 where
  pub Key : Type 0
  pub Recon : Type 0
  pub Cond : Type 0
  pub meaning : Meaning Key Recon Cond
  pub speech : Speech Key Cond
  -- the class code in an image
  pub code : ℕ

abbrev pub class_told : {Key Recon Cond : Type 0} → Meaning Key Recon Cond → Speech Key Cond → ℕ → ClassOf
class_told {Key} {Recon} {Cond} m speech code = record { Key = Key; Recon = Recon; Cond = Cond; meaning = m; speech = speech; code = code }

-- the class that a line names
abbrev pub class_at : ClassLine → ClassOf
class_at line.Quad = class_told quad_meaning point_speech 1
class_at line.Kd = class_told kd_meaning point_speech 2
class_at line.Radix = class_told radix_meaning text_speech 3
class_at line.QuadValue = class_told (with_meaning quad_meaning) point_value_speech 17
class_at line.KdValue = class_told (with_meaning kd_meaning) point_value_speech 18
class_at line.RadixValue = class_told (with_meaning radix_meaning) text_value_speech 19
class_at line.Range = class_told range_meaning range_speech 4

-- a state, and the line that names its class
pub record StateOf : Type 1 where
  pub line : ClassLine
  pub O : Type 0
  pub seen : Seen O (class_at line).Key (class_at line).Recon (class_at line).Cond

abbrev pub state_told : {O : Type 0} (class : ClassLine) → Seen O (class_at class).Key (class_at class).Recon (class_at class).Cond → StateOf
state_told {O} class seen = record { line = class; O = O; seen = seen }

-- the state that a run ends with
abbrev pub state_of : EndState → StateOf
state_of (state.Quad seen) = state_told line.Quad seen
state_of (state.Kd seen) = state_told line.Kd seen
state_of (state.Radix seen) = state_told line.Radix seen
state_of (state.QuadValue seen) = state_told line.QuadValue seen
state_of (state.KdValue seen) = state_told line.KdValue seen
state_of (state.RadixValue seen) = state_told line.RadixValue seen
state_of (state.Range seen) = state_told line.Range seen
