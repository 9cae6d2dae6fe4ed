-- The calls of a save, one after another.
use Rattle.std.proofs.Common.{◌≡◌, ℕ, ◌+◌, ◌<◌, inr, List, length, Option, true, false, Ok, Err}
use Rattle.std.specs.Prelude.{Result}
use Rattle.std.specs.Result.{IsErr, IsErrAnd}
use Rattle.spg_image.specs.declared.refused.SaveRefused.{SaveRefused}
use Rattle.spg_io.specs.declared.sink.IoRefused.{IoRefused}
use Rattle.spg_io.specs.declared.sink.IoRefused.TheVariants.{Failed, Memory}
use Rattle.spg_io.specs.Held.{Holding, Changes, Puts, IsCleared, HasPageMore, HasFrontMore, page_size}
use Rattle.spg_tree.specs.Table.{Table, IsSound, sheet_at}
use Rattle.spg_image.specs.Image.{Image, image_of}
use Rattle.spg_image.specs.Refusals.{refusal_of}
use Rattle.spg_image.specs.Saving.{IsBlockOf, HoldsPages, HoldsImage, HoldsFirst, HoldsFirstAndFront, Saves}
use Rattle.spg_image.proofs.Changing.{changes_then, changes_stays, changes_less}
use Rattle.spg_image.proofs.Firsts.{holds_none, holds_more, holds_front, reads_whole}

pub cleared : (i : Image) (a b : Option Holding) (name : List ℕ) → Changes a b name IsCleared → Changes a b name (λ x held. HoldsPages i 0 held)
cleared i a b name p = changes_less a b name IsCleared (λ x held. HoldsPages i 0 held) p (λ x y e. rw e (holds_none i))

pub put_more : (i : Image) (k : ℕ) (page : List ℕ) (a b c : Option Holding) (name : List ℕ) → Changes a b name (λ x held. HoldsPages i k held) → Changes b c name (HasPageMore page) → length page ≡ page_size → IsBlockOf i k page → Changes a c name (λ x held. HoldsPages i (k + 1) held)
put_more i k page a b c name p q size here =
    changes_then a b c name (λ x held. HoldsPages i k held) (HasPageMore page) (λ x held. HoldsPages i (k + 1) held) p q (λ x y z h m. holds_more i k page y z h size here m)

pub put_refused : (i : Image) (k : ℕ) (page : List ℕ) (a b c : Option Holding) (name : List ℕ) (e : IoRefused) → Changes a b name (λ x held. HoldsPages i k held) → Puts b c name page (Err e) → k < length i.pages → IsBlockOf i k page → Saves i a c name (Err (refusal_of e))
put_refused i k page a b c name Failed p q l here =
    inr (changes_then a b c name (λ x held. HoldsPages i k held) (HasFrontMore page) (λ x held. HoldsFirstAndFront i held) p q (λ x y z h m. holds_front i k page y z h l here m))
put_refused i k page a b c name Memory p q l here =
    inr (changes_stays a b c name (λ x held. HoldsPages i k held) (λ x held. HoldsFirst i held) p q (λ x y h. (k, l, h)))

pub put_all : (class : ℕ) (t : Table) (a b : Option Holding) (name : List ℕ) → IsSound t → (sheet_at t 1).nulls ≡ false → (sheet_at t 2).nulls ≡ true → Changes a b name (λ x held. HoldsPages (image_of class t) (length t.pages) held) → Changes a b name (λ x held. HoldsImage (image_of class t) held)
put_all class t a b name sound main nulls p =
    changes_less a b name (λ x held. HoldsPages (image_of class t) (length t.pages) held) (λ x held. HoldsImage (image_of class t) held) p (λ x y h. (h.0, h.1, reads_whole class t h.0 sound main nulls h.2))

-- the refusal that is handed on
pub saves_refused : (i : Image) (a c : Option Holding) (name : List ℕ) (r : Result ℕ SaveRefused) (e : IoRefused) → IsErr r → IsErrAnd r (λ x. x ≡ refusal_of e) → Saves i a c name (Err (refusal_of e)) → Saves i a c name r
saves_refused i a c name (Ok n) e is and s = cc
saves_refused i a c name (Err x) e is and s = rw and s
