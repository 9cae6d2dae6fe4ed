use Rattle.std.proofs.Common.{◌∙◌, codes}
use Rattle.std.specs.Fmt.{decimal}
use Rattle.std.proofs.lemmas.Result.{on_ok_weaker}
use Rattle.spg_report.proofs.Pieces.{seven_pieces}
use Rattle.spg_report.proofs.Taken.{OnOk-always}
use Rattle.spg_report.proofs.results.push_stat.Goals as goal

pub returns-clause-text : goal.returns-clause-text
returns-clause-text c =
    let s = c.args.stat.now in
    on_ok_weaker c.named-7.result
    (λ named. named ∙ rw (c.in_ok-named-6.ensures.text, c.in_ok-named-5.ensures.text, c.in_ok-named-4.ensures.text, c.in_ok-named-3.ensures.text, c.in_ok-named-2.ensures.text, c.in_ok-named.ensures.text, c.from.ensures)
    (seven_pieces c.args.line.now (codes "stat pages ") (decimal s.pages) (codes " inner ") (decimal s.inner) (codes " leaf ") (decimal s.leaf) (codes " redirect ") (decimal s.redirect) (codes " dead ") (decimal s.dead)
    (codes " placeholder ") (decimal s.placeholder) (codes " clock ") (decimal s.clock))) c.named-7.ensures.text

pub returns-clause-fits : goal.returns-clause-fits
returns-clause-fits c = OnOk-always c.named-7.result _ (record {
  pages = rw c.from.ensures at c.named.ensures.fits;
  inner = c.named-2.ensures.fits;
  leaf = c.named-3.ensures.fits;
  redirect = c.named-4.ensures.fits;
  dead = c.named-5.ensures.fits;
  placeholder = c.named-6.ensures.fits;
  clock = c.named-7.ensures.fits;
})
