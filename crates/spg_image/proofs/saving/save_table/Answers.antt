use Rattle.std.proofs.Common.{◌≡◌, ◌<◌, length, sym, subst, ◌∙◌, arith}
use Rattle.spg_io.specs.Held.{Changes}
use Rattle.spg_tree.specs.Table.{Table}
use Rattle.spg_image.specs.Page.{IsPageAt}
use Rattle.spg_image.specs.Image.{Image, image_of}
use Rattle.spg_image.specs.Saving.{IsBlockOf, HoldsPages, PutFirst}
use Rattle.spg_image.proofs.Firsts.{meta_block, page_block, image_count}
use Rattle.spg_image.proofs.Calls.{put_next, stops_clearing, stops_putting}
use Rattle.spg_image.proofs.Steps.{cleared, put_more, put_refused, put_all, saves_refused}
use Rattle.spg_image.proofs.saving.save_table.Goals as goal

pub returns-in_err-clear-clause-calls : goal.returns-in_err-clear-clause-calls
returns-in_err-clear-clause-calls g c =
    stops_clearing g.M.Images.clear_gives g.M.Images.put_gives (image_of c.args.class c.args.table.now) c.args.name.now c.args.images.now c.clear.new.self c.from_residual.result c.in_err-clear.field-0.0 c.from_residual.ensures.0 c.from_residual.ensures.1 c.in_err-clear.ensures.gives

pub returns-in_err-put-clause-saves : goal.returns-in_err-put-clause-saves
returns-in_err-put-clause-saves g c =
    let t : Table = c.args.table.now in
    let i : Image = image_of c.args.class t in
    let a = g.M.Images.held c.args.images.now in
    let b = g.M.Images.held c.clear.new.self in
    let d = g.M.Images.held c.put.new.self in
    let sound = c.page_count-count.ensures.sound in
    let here : IsBlockOf i 0 c.meta_page.result = meta_block c.args.class t c.meta_page.result c.page_count-count.result c.meta.result sound.roots c.page_count-count.ensures.value c.meta.ensures c.meta_page.ensures.is c.meta_page.ensures.says in
    let q = put_refused i 0 c.meta_page.result a b d c.args.name.now c.in_err-put.field-0.0 (cleared i a b c.args.name.now c.in_ok-clear.ensures.bytes) c.in_err-put.ensures.bytes (omega arith) here in
    saves_refused i a d c.args.name.now c.from_residual-in_err-put.result c.in_err-put.field-0.0 c.from_residual-in_err-put.ensures.0 c.from_residual-in_err-put.ensures.1 q

pub returns-in_err-put-clause-calls : goal.returns-in_err-put-clause-calls
returns-in_err-put-clause-calls g c =
    let t : Table = c.args.table.now in
    let i : Image = image_of c.args.class t in
    let sound = c.page_count-count.ensures.sound in
    let here : IsBlockOf i 0 c.meta_page.result = meta_block c.args.class t c.meta_page.result c.page_count-count.result c.meta.result sound.roots c.page_count-count.ensures.value c.meta.ensures c.meta_page.ensures.is c.meta_page.ensures.says in
    stops_putting g.M.Images.clear_gives g.M.Images.put_gives i c.args.name.now c.args.images.now 0 c.clear.new.self c.put.new.self c.meta_page.result c.from_residual-in_err-put.result c.in_err-put.field-0.0 c.from_residual-in_err-put.ensures.0 c.from_residual-in_err-put.ensures.1
    (omega arith) (c.in_ok-clear.field-0, c.in_ok-clear.ensures.gives) here c.in_err-put.ensures.gives

pub loop-block-init : goal.loop-block-init
loop-block-init g c =
    let t : Table = c.args.table.now in
    let i : Image = image_of c.args.class t in
    let a = g.M.Images.held c.args.images.now in
    let b = g.M.Images.held c.clear.new.self in
    let d = g.M.Images.held c.put.new.self in
    let sound = c.page_count-count.ensures.sound in
    let here : IsBlockOf i 0 c.meta_page.result = meta_block c.args.class t c.meta_page.result c.page_count-count.result c.meta.result sound.roots c.page_count-count.ensures.value c.meta.ensures c.meta_page.ensures.is c.meta_page.ensures.says in
    record {
      calls = (c.in_ok-put.field-0, c.clear.new.self, c.meta_page.result, (c.in_ok-clear.field-0, c.in_ok-clear.ensures.gives), here, c.in_ok-put.ensures.gives);
      held = put_more i 0 c.meta_page.result a b d c.args.name.now (cleared i a b c.args.name.now c.in_ok-clear.ensures.bytes) c.in_ok-put.ensures.bytes c.meta_page.ensures.is.len here;
      same = c.in_ok-put.ensures.answered ∙ c.in_ok-clear.ensures.answered;
    }

pub returns-in_err-put-2-clause-saves : goal.returns-in_err-put-2-clause-saves
returns-in_err-put-2-clause-saves g c =
    let t : Table = c.args.table.now in
    let i : Image = image_of c.args.class t in
    let a = g.M.Images.held c.args.images.now in
    let b = g.M.Images.held c.loop-block.images in
    let d = g.M.Images.held c.put-in-loop-block.new.self in
    let sound = c.page_count-count.ensures.sound in
    let here : IsBlockOf i c.loop-block.block c.page_bytes.result = page_block c.args.class t c.loop-block.block c.page_bytes.result (omega arith) (subst (λ v. IsPageAt v c.loop-block.block c.page_bytes.result) c.version_of-version.ensures c.page_bytes.ensures.is) (c.page_bytes.ensures.shows ∙ c.page.ensures) in
    let within : c.loop-block.block < length i.pages = omega (arith, image_count c.args.class t sound.roots, c.page_count-count.ensures.value) in
    let q = put_refused i c.loop-block.block c.page_bytes.result a b d c.args.name.now c.in_err-put-2.field-0.0 c.loop-block.invariant.held c.in_err-put-2.ensures.bytes within here in
    saves_refused i a d c.args.name.now c.from_residual-in_err-put-2.result c.in_err-put-2.field-0.0 c.from_residual-in_err-put-2.ensures.0 c.from_residual-in_err-put-2.ensures.1 q

pub returns-in_err-put-2-clause-calls : goal.returns-in_err-put-2-clause-calls
returns-in_err-put-2-clause-calls g c =
    let t : Table = c.args.table.now in
    let i : Image = image_of c.args.class t in
    let sound = c.page_count-count.ensures.sound in
    let here : IsBlockOf i c.loop-block.block c.page_bytes.result = page_block c.args.class t c.loop-block.block c.page_bytes.result (omega arith) (subst (λ v. IsPageAt v c.loop-block.block c.page_bytes.result) c.version_of-version.ensures c.page_bytes.ensures.is) (c.page_bytes.ensures.shows ∙ c.page.ensures) in
    let within : c.loop-block.block < length i.pages = omega (arith, image_count c.args.class t sound.roots, c.page_count-count.ensures.value) in
    stops_putting g.M.Images.clear_gives g.M.Images.put_gives i c.args.name.now c.args.images.now c.loop-block.block c.loop-block.images c.put-in-loop-block.new.self c.page_bytes.result c.from_residual-in_err-put-2.result c.in_err-put-2.field-0.0
    c.from_residual-in_err-put-2.ensures.0 c.from_residual-in_err-put-2.ensures.1 within c.loop-block.invariant.calls here c.in_err-put-2.ensures.gives

pub loop-block-preserved : goal.loop-block-preserved
loop-block-preserved g c =
    let t : Table = c.args.table.now in
    let i : Image = image_of c.args.class t in
    let a = g.M.Images.held c.args.images.now in
    let b = g.M.Images.held c.loop-block.images in
    let d = g.M.Images.held c.put-in-loop-block.new.self in
    let here : IsBlockOf i c.loop-block.block c.page_bytes.result = page_block c.args.class t c.loop-block.block c.page_bytes.result (omega arith) (subst (λ v. IsPageAt v c.loop-block.block c.page_bytes.result) c.version_of-version.ensures c.page_bytes.ensures.is) (c.page_bytes.ensures.shows ∙ c.page.ensures) in
    record {
      calls = put_next g.M.Images.clear_gives g.M.Images.put_gives i c.args.name.now c.args.images.now c.loop-block.block c.loop-block.images c.put-in-loop-block.new.self c.page_bytes.result c.in_ok-put-2.field-0 c.loop-block.invariant.calls here c.in_ok-put-2.ensures.gives;
      held = put_more i c.loop-block.block c.page_bytes.result a b d c.args.name.now c.loop-block.invariant.held c.in_ok-put-2.ensures.bytes c.page_bytes.ensures.is.laid.len here;
      same = c.in_ok-put-2.ensures.answered ∙ c.loop-block.invariant.same;
    }

pub returns-clause-saves : goal.returns-clause-saves
returns-clause-saves g c =
    let t : Table = c.args.table.now in
    let i : Image = image_of c.args.class t in
    let a = g.M.Images.held c.args.images.now in
    let b = g.M.Images.held c.loop-block.images in
    let sound = c.page_count-count.ensures.sound in
    let ended : c.loop-block.block ≡ length t.pages = omega (arith, c.page_count-count.ensures.value, sound.roots) in
    let all : Changes a b c.args.name.now (λ x held. HoldsPages i (length t.pages) held) = subst (λ n. Changes a b c.args.name.now (λ x held. HoldsPages i n held)) ended c.loop-block.invariant.held in
    (c.page_count-count.ensures.value ∙ sym (image_count c.args.class t sound.roots), put_all c.args.class t a b c.args.name.now sound c.requires.main c.requires.nulls all)

pub returns-clause-calls : goal.returns-clause-calls
returns-clause-calls g c =
    let t : Table = c.args.table.now in
    let sound = c.page_count-count.ensures.sound in
    let ended : c.loop-block.block ≡ length (image_of c.args.class t).pages = omega (arith, c.page_count-count.ensures.value, image_count c.args.class t sound.roots, sound.roots) in
    subst (λ n. PutFirst g.M.Images.clear_gives g.M.Images.put_gives (image_of c.args.class t) c.args.name.now c.args.images.now n c.loop-block.images) ended c.loop-block.invariant.calls
