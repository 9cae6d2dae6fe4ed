use Rattle.std.proofs.Common.{◌++◌, ◌∷◌, []}
use Rattle.spg_streams.proofs.Streams.{WroteSome-none, OnErr-always}
use Rattle.spg_streams.proofs.writing.write_line.Goals as goal

pub returns-in_err-push-clause-err : goal.returns-in_err-push-clause-err
returns-in_err-push-clause-err g c = OnErr-always _ _ (WroteSome-none (g.K.Sink.contents c.args.sink.now) (c.args.line.now ++ 10 ∷ []))
