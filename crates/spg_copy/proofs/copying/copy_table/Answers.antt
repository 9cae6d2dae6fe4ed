use Rattle.std.proofs.Common.{◌≡◌, ℕ, length, sym, ap, ◌∙◌, subst, arith}
use Rattle.spg_tree.specs.Table.{Table, AreRemembered}
use Rattle.spg_copy.proofs.copying.copy_table.Goals as goal

pub with_pages-requires-clause-from : goal.with_pages-requires-clause-from
with_pages-requires-clause-from c = omega (arith, c.limit.ensures, c.page_count.ensures.sound.limit_from)

pub with_pages-requires-clause-to : goal.with_pages-requires-clause-to
with_pages-requires-clause-to c = omega (arith, c.limit.ensures, c.page_count.ensures.sound.limit_to)

pub with_pages-requires-clause-count : goal.with_pages-requires-clause-count
with_pages-requires-clause-count c =
    let long = ap length c.in_ok-pages.ensures in
    let sound = c.page_count.ensures.sound in
    (omega (arith, long, sound.roots), omega (arith, long, sound.within, c.limit.ensures))

pub set_meta-requires-clause-remembered : goal.set_meta-requires-clause-remembered
set_meta-requires-clause-remembered c =
    let pages = c.args.table.now.pages in
    let long : length c.in_ok-copy.copy.pages ≡ length pages = ap (λ (t : Table). length t.pages) c.in_ok-copy.ensures ∙ ap length c.in_ok-pages.ensures in
    subst (λ (n : ℕ). AreRemembered n c.meta-meta.result.remembered) (sym long) (subst (AreRemembered (length pages)) (sym (ap (λ (m : _). m.remembered) c.meta-meta.ensures)) c.page_count.ensures.sound.remembered)

pub set_meta-requires-clause-counter : goal.set_meta-requires-clause-counter
set_meta-requires-clause-counter c = omega (arith, ap (λ (m : _). m.counter) c.meta-meta.ensures, c.page_count.ensures.sound.counter)
