use Rattle.std.proofs.Common.{◌≡◌, ◌+◌, ◌∙◌, arith, refl, ap, drop, length}
use Rattle.std.specs.Prelude.{slice_range}
use Rattle.std.proofs.lemmas.List.{take_rest, length-drop}
use Rattle.spg_page.specs.Numbers.{two_at}
use Rattle.spg_page.specs.Spelling.{padded}
use Rattle.spg_page.proofs.Codec.{length_from}
use Rattle.spg_page.proofs.PartLaws.{inner_read, labels_stored, length_to}
use Rattle.spg_page.proofs.parts.node_bytes_in.Goals as goal

pub two_at-len-requires : goal.two_at-len-requires
two_at-len-requires c = omega (arith, length_from c.args.bytes.now c.requires.tuple)

pub slice_bounds-result-count : goal.slice_bounds-result-count
slice_bounds-result-count c = let r = inner_read c.args.bytes.now c.requires.tuple c.requires.inner in rw (c.padded.ensures, c.two_at-len.ensures) (omega (arith, r.long))

pub slice_bounds-result-start : goal.slice_bounds-result-start
slice_bounds-result-start c = let r = inner_read c.args.bytes.now c.requires.tuple c.requires.inner in omega (arith, r.long, c.padded.ensures, c.two_at-len.ensures)

pub returns-clause-labels : goal.returns-clause-labels
returns-clause-labels c =
    let at : 8 + c.padded.result ≡ 8 + padded (two_at c.args.bytes.now 4) = rw (c.padded.ensures, c.two_at-len.ensures) refl in
    let rest : slice_range c.args.bytes.now (8 + c.padded.result) (length c.args.bytes.now) ≡ drop (8 + padded (two_at c.args.bytes.now 4)) c.args.bytes.now = take_rest c.args.bytes.now (8 + c.padded.result) ∙ ap (λ k. drop k c.args.bytes.now) at in
    labels_stored c.args.bytes.now c.requires.tuple c.requires.inner (slice_range c.args.bytes.now (8 + c.padded.result) (length c.args.bytes.now)) rest

pub returns-clause-bound : goal.returns-clause-bound
returns-clause-bound c =
    rw (take_rest c.args.bytes.now (8 + c.padded.result)) (omega (arith, length_to c.args.bytes.now c.requires.tuple, length-drop (8 + c.padded.result) c.args.bytes.now))
