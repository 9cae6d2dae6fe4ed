use Rattle.std.proofs.Common.{◌+◌, ◌-◌, ◌++◌, length, take, replicate, refl, arith, ◌∙◌, ap}
use Rattle.std.proofs.lemmas.Slice.{put_mid-paste}
use Rattle.spg_page.proofs.Codec.{short_written}
use Rattle.spg_page.proofs.spelling.short_leaf_bytes.Goals as goal

pub returns : goal.returns
returns c =
    c.from_buf_and_len.ensures.items
    ∙ ap (take (16 + c.padded.result)) (put_mid-paste 16 (16 + length c.args.rest.now - 16) (c.copy_from_slice.new.self ++ replicate 16 0) c.copy_from_slice-2.new.self c.args.rest.now (length c.args.rest.now) c.copy_from_slice-2.ensures.after (omega arith) refl)
    ∙ short_written c.copy_from_slice.new.self c.args.head c.args.rest.now c.padded.result (c.copy_from_slice.ensures.after ∙ c.as_slice.ensures) c.copy_from_slice.ensures.len c.requires c.padded.ensures
