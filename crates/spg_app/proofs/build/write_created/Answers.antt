use Rattle.std.proofs.Common.{◌++◌, ◌∷◌, [], ℕ, List, ap, ◌∙◌, subst, codes, decimal}
use Rattle.std.proofs.lemmas.Result.{on_err_weaker}
use Rattle.spg_streams.specs.Io.{WroteSome}
use Rattle.spg_app.specs.Builds.{built_text}
use Rattle.spg_streams.proofs.Streams.{WroteSome-none, OnErr-always}
use Rattle.spg_app.proofs.build.write_created.Goals as goal

pub returns-in_err-named-clause-err : goal.returns-in_err-named-clause-err
returns-in_err-named-clause-err g c = OnErr-always _ _ (WroteSome-none (g.K.Sink.contents c.args.out.now) (built_text c.args.created))

pub returns-in_err-named-2-clause-err : goal.returns-in_err-named-2-clause-err
returns-in_err-named-2-clause-err g c = OnErr-always _ _ (WroteSome-none (g.K.Sink.contents c.args.out.now) (built_text c.args.created))

pub returns-in_err-named-3-clause-err : goal.returns-in_err-named-3-clause-err
returns-in_err-named-3-clause-err g c = OnErr-always _ _ (WroteSome-none (g.K.Sink.contents c.args.out.now) (built_text c.args.created))

pub returns-clause-err : goal.returns-clause-err
returns-clause-err g c =
    let entries = c.in_ok-named.ensures.text ∙ ap (λ (l : List ℕ). l ++ (codes "built " ++ decimal c.args.created.entries)) c.new-line.ensures in
    let skipped = c.in_ok-named-2.ensures.text ∙ ap (λ (l : List ℕ). l ++ (codes " skipped " ++ decimal c.args.created.skipped)) entries in
    let pages = c.in_ok-named-3.ensures.text ∙ ap (λ (l : List ℕ). l ++ (codes " pages " ++ decimal c.from.result)) skipped in
    let line = pages ∙ ap (λ (n : ℕ). ((codes "built " ++ decimal c.args.created.entries) ++ (codes " skipped " ++ decimal c.args.created.skipped)) ++ (codes " pages " ++ decimal n)) c.from.ensures in
    on_err_weaker c.write_line.result (λ some. subst (λ (l : List ℕ). WroteSome (g.K.Sink.contents c.args.out.now) (g.K.Sink.contents c.write_line.new.sink) (l ++ 10 ∷ [])) line some) c.write_line.ensures.err
