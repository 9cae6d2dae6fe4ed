use Rattle.std.proofs.Common.{◌<◌, length, ◌≡◌, true, get_or, sym, ap, ◌∙◌, arith}
use Rattle.std.proofs.lemmas.Grind.{common_steps}
use Rattle.std.specs.Str.{bytes_eq}
use Rattle.spg_io.specs.declared.store.File.{File}
use Rattle.spg_io.proofs.Stores.{place_first, place_none, no_file, has_name}
use Rattle.spg_io.proofs.store.Store.place.Goals as goal

pub returns-then-eq : goal.returns-then-eq
returns-then-eq c =
    let within : c.loop-at.at < length c.args.self.now = grind (arith, common_steps) in
    let is : c.index.result.now ≡ get_or c.args.self.now c.loop-at.at no_file = grind (arith, common_steps) in
    let here : has_name (get_or c.args.self.now c.loop-at.at no_file) c.args.name.now ≡ true =
    ap (λ (f : File). bytes_eq f.name c.args.name.now) (sym is) ∙ ap (λ n. bytes_eq n c.args.name.now) (sym c.as_slice.ensures.value) ∙ sym c.eq.ensures ∙ c.if-eq.true in
    sym (place_first c.args.self.now c.args.name.now c.loop-at.at within c.loop-at.invariant here)

pub returns : goal.returns
returns c = sym (place_none c.args.self.now c.args.name.now (λ k h. c.loop-at.invariant k (grind (arith, common_steps))))
