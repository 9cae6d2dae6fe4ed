use Rattle.std.proofs.Common.{◌<◌, ◌≡◌, Some, None, length, get_or, sym, ap, ◌∙◌, arith}
use Rattle.std.proofs.lemmas.Grind.{common_steps}
use Rattle.spg_io.specs.Files.{place_of}
use Rattle.spg_io.proofs.Stores.{file_at, no_file_with, no_file}
use Rattle.spg_io.proofs.store.Store.set.Goals as goal

pub index_mut-requires : goal.index_mut-requires
index_mut-requires c =
    let e : place_of c.args.self.now c.args.name.now ≡ Some c.in-Some.at = sym c.place.ensures ∙ c.in-Some.is in
    let f : c.in-Some.at < length c.args.self.now = (file_at c.args.self.now c.args.name.now c.in-Some.at e).within in
    let v : c.self.inside.files.items ≡ c.args.self.now = c.self.view_is in
    let m : length c.self.inside.files.items ≡ length c.args.self.now = ap length v in
    grind (arith, common_steps)

pub returns-in-Some-clause-ok : goal.returns-in-Some-clause-ok
returns-in-Some-clause-ok c =
    let e : place_of c.args.self.now c.args.name.now ≡ Some c.in-Some.at = sym c.place.ensures ∙ c.in-Some.is in
    let f = file_at c.args.self.now c.args.name.now c.in-Some.at e in
    let v : c.self.inside.files.items ≡ c.args.self.now = c.self.view_is in
    let within = f.within in
    let is : c.index_mut.result.now ≡ get_or c.args.self.now c.in-Some.at no_file = grind (arith, common_steps) in
    rw (v, c.set.ensures, is) (f.set c.args.bytes)

pub returns-in_ok-push-in-None-clause-ok : goal.returns-in_ok-push-in-None-clause-ok
returns-in_ok-push-in-None-clause-ok c =
    let e : place_of c.args.self.now c.args.name.now ≡ None = sym c.place.ensures ∙ c.in-None.is in
    let v : c.self.inside.files.items ≡ c.args.self.now = c.self.view_is in
    let n : c.in_ok-name-in-None.name ≡ c.args.name.now = grind (arith, common_steps) in
    let p = c.in_ok-push-in-None.ensures.items in
    rw (p, v, n) (no_file_with c.args.self.now c.args.name.now c.args.bytes e)
