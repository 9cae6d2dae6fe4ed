use Rattle.std.proofs.Common.{◌<◌, ◌≡◌, ◌++◌, Some, None, length, get_or, refl, sym, ap, ◌∙◌, arith}
use Rattle.std.proofs.lemmas.Grind.{common_steps}
use Rattle.spg_io.specs.Files.{bytes_under, place_of, with_bytes}
use Rattle.spg_io.proofs.Stores.{file_at, no_file_at, no_file}
use Rattle.spg_io.proofs.store.Store.put.Goals as goal

pub index_mut-requires : goal.index_mut-requires
index_mut-requires c =
    let e : place_of c.args.self.now c.args.name.now ≡ Some c.in-Some.at = sym c.place.ensures ∙ c.in-Some.is in
    let f : c.in-Some.at < length c.args.self.now = (file_at c.args.self.now c.args.name.now c.in-Some.at e).within in
    let v : c.self.inside.files.items ≡ c.args.self.now = c.self.view_is in
    let m : length c.self.inside.files.items ≡ length c.args.self.now = ap length v in
    grind (arith, common_steps)

pub returns-in_ok-extend-in-Some-clause-ok : goal.returns-in_ok-extend-in-Some-clause-ok
returns-in_ok-extend-in-Some-clause-ok c =
    let e : place_of c.args.self.now c.args.name.now ≡ Some c.in-Some.at = sym c.place.ensures ∙ c.in-Some.is in
    let f = file_at c.args.self.now c.args.name.now c.in-Some.at e in
    let v : c.self.inside.files.items ≡ c.args.self.now = c.self.view_is in
    let within = f.within in
    let is : c.index_mut.result.now ≡ get_or c.args.self.now c.in-Some.at no_file = grind (arith, common_steps) in
    let p = c.in_ok-extend-in-Some.ensures.ok in
    rw (v, p, is, f.under) (f.set ((get_or c.args.self.now c.in-Some.at no_file).bytes ++ c.args.page.now))

pub returns-in_ok-set-in-None-clause-ok : goal.returns-in_ok-set-in-None-clause-ok
returns-in_ok-set-in-None-clause-ok c =
    let e : place_of c.args.self.now c.args.name.now ≡ None = sym c.place.ensures ∙ c.in-None.is in
    let u : bytes_under c.args.self.now c.args.name.now ≡ None = no_file_at c.args.self.now c.args.name.now e in
    let n : c.in_ok-bytes-in-None.bytes ≡ c.args.page.now = grind (arith, common_steps) in
    let p : c.set.new.self ≡ with_bytes c.args.self.now c.args.name.now c.in_ok-bytes-in-None.bytes = c.in_ok-set-in-None.ensures.ok in
    rw (p, n, u) refl
