use Rattle.std.proofs.Common.{◌<◌, ◌≡◌, Some, None, length, get_or, sym, ap, ◌∙◌, refl, arith}
use Rattle.std.proofs.lemmas.Grind.{common_steps}
use Rattle.spg_io.specs.declared.store.File.{File}
use Rattle.spg_io.specs.Files.{bytes_under, place_of}
use Rattle.spg_io.proofs.Stores.{file_at, no_file_at, no_file}
use Rattle.spg_io.proofs.store.Store.bytes.Goals as goal

pub returns-in_err-at-clause-none : goal.returns-in_err-at-clause-none
returns-in_err-at-clause-none c =
    let e : place_of c.args.self.now c.args.name.now ≡ None = sym c.place.ensures ∙ c.in_err-at.was in
    let n : bytes_under c.args.self.now c.args.name.now ≡ None = no_file_at c.args.self.now c.args.name.now e in
    (λ h. n, λ h. rw c.from_residual.ensures refl)

pub index-requires : goal.index-requires
index-requires c =
    let e : place_of c.args.self.now c.args.name.now ≡ Some c.in_ok-at.at = sym c.place.ensures ∙ c.in_ok-at.was in
    let f : c.in_ok-at.at < length c.args.self.now = (file_at c.args.self.now c.args.name.now c.in_ok-at.at e).within in
    let v : c.self.inside.files.items ≡ c.args.self.now = c.self.view_is in
    let m : length c.self.inside.files.items ≡ length c.args.self.now = ap length v in
    grind (arith, common_steps)

pub returns-clause-none : goal.returns-clause-none
returns-clause-none c =
    let e : place_of c.args.self.now c.args.name.now ≡ Some c.in_ok-at.at = sym c.place.ensures ∙ c.in_ok-at.was in
    let u = (file_at c.args.self.now c.args.name.now c.in_ok-at.at e).under in
    (λ h. cc, λ h. cc)

pub returns-clause-some : goal.returns-clause-some
returns-clause-some c =
    let e : place_of c.args.self.now c.args.name.now ≡ Some c.in_ok-at.at = sym c.place.ensures ∙ c.in_ok-at.was in
    let f = file_at c.args.self.now c.args.name.now c.in_ok-at.at e in
    let within = f.within in
    let is : c.index.result.now ≡ get_or c.args.self.now c.in_ok-at.at no_file = grind (arith, common_steps) in
    f.under ∙ ap (λ (g : File). Some g.bytes) (sym is) ∙ ap Some (sym c.as_slice.ensures.value)
