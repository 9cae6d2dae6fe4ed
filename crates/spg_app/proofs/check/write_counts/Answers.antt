use Rattle.std.proofs.Common.{◌++◌, ◌∷◌, [], ℕ, List, ap, ◌∙◌, subst, codes, decimal}
use Rattle.std.proofs.lemmas.Result.{on_err_weaker}
use Rattle.spg_streams.specs.Io.{WroteSome}
use Rattle.spg_app.specs.Checks.{counts_text}
use Rattle.spg_streams.proofs.Streams.{WroteSome-none, OnErr-always}
use Rattle.spg_app.proofs.check.write_counts.Goals as goal

pub returns-in_err-named-clause-err : goal.returns-in_err-named-clause-err
returns-in_err-named-clause-err g c = OnErr-always _ _ (WroteSome-none (g.K.Sink.contents c.args.out.now) (counts_text c.args.verified))

pub returns-in_err-named-2-clause-err : goal.returns-in_err-named-2-clause-err
returns-in_err-named-2-clause-err g c = OnErr-always _ _ (WroteSome-none (g.K.Sink.contents c.args.out.now) (counts_text c.args.verified))

pub returns-clause-err : goal.returns-clause-err
returns-clause-err g c =
    let pages = c.in_ok-named.ensures.text ∙ ap (λ (l : List ℕ). l ++ (codes "ok pages " ++ decimal c.from.result)) c.new-line.ensures ∙ ap (λ (n : ℕ). codes "ok pages " ++ decimal n) c.from.ensures in
    let line = c.in_ok-named-2.ensures.text ∙ ap (λ (l : List ℕ). l ++ (codes " entries " ++ decimal c.args.verified.entries)) pages in
    on_err_weaker c.write_line.result (λ some. subst (λ (l : List ℕ). WroteSome (g.K.Sink.contents c.args.out.now) (g.K.Sink.contents c.write_line.new.sink) (l ++ 10 ∷ [])) line some) c.write_line.ensures.err
