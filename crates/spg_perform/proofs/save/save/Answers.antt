use Rattle.std.proofs.Common.{◌≡◌, List, ℕ, Ok, Err, sym, subst, ◌∙◌}
use Rattle.std.specs.Str.{IsUtf8}
use Rattle.spg_tree.specs.Table.{IsSound}
use Rattle.spg_image.specs.Image.{image_of}
use Rattle.spg_image.specs.Saving.{Saves}
use Rattle.spg_image.specs.declared.refused.SaveRefused.TheVariants.{ImageFault, Memory}
use Rattle.spg_perform.proofs.SavingNames.{name_utf8}
use Rattle.spg_perform.proofs.Saving.{saved, failed, unsaved}
use Rattle.spg_perform.proofs.save.save.Goals as goal

pub unreachable-requires : goal.unreachable-requires
unreachable-requires g c = c.in_default.ensures.cases.0 (subst IsUtf8 (sym c.as_slice.ensures.value) (name_utf8 c.args.name.now c.requires))

pub returns-in-Ok-save-clause-saved : goal.returns-in-Ok-save-clause-saved
returns-in-Ok-save-clause-saved g c =
    let t = c.args.state.now.table in
    let old = g.M.Images.held c.args.images.now in
    let now = g.M.Images.held c.save.new.images in
    let same : c.in-Ok.name.now ≡ c.args.name.now = c.in-Ok.ensures.cases.0 ∙ c.as_slice.ensures.value in
    let sound = subst IsSound c.pages.ensures.value c.page_count.ensures.sound in
    let saves = subst (λ (name : List ℕ). Saves (image_of g.O.OpClass.code_number t) old now name (Ok c.in-Ok-save.pages)) same c.in-Ok-save.ensures.saves in
    saved g.O.OpClass.code_number t sound old now c.args.name.now c.in-Ok-save.pages saves

pub returns-in-Err-ImageFault-clause-saved : goal.returns-in-Err-ImageFault-clause-saved
returns-in-Err-ImageFault-clause-saved g c =
    let t = c.args.state.now.table in
    let old = g.M.Images.held c.args.images.now in
    let now = g.M.Images.held c.save.new.images in
    let same : c.in-Ok.name.now ≡ c.args.name.now = c.in-Ok.ensures.cases.0 ∙ c.as_slice.ensures.value in
    let sound = subst IsSound c.pages.ensures.value c.page_count.ensures.sound in
    failed g.O.OpClass.code_number t sound old now c.args.name.now (subst (λ (name : List ℕ). Saves (image_of g.O.OpClass.code_number t) old now name (Err ImageFault)) same
    (subst (λ e. Saves (image_of g.O.OpClass.code_number t) old now c.in-Ok.name.now (Err e)) c.in-Err-ImageFault.field-0-is c.in-Err-ImageFault.ensures.saves))

pub returns-in-Err-Memory-clause-saved : goal.returns-in-Err-Memory-clause-saved
returns-in-Err-Memory-clause-saved g c =
    let t = c.args.state.now.table in
    let old = g.M.Images.held c.args.images.now in
    let now = g.M.Images.held c.save.new.images in
    let same : c.in-Ok.name.now ≡ c.args.name.now = c.in-Ok.ensures.cases.0 ∙ c.as_slice.ensures.value in
    let sound = subst IsSound c.pages.ensures.value c.page_count.ensures.sound in
    unsaved g.O.OpClass.code_number t sound old now c.args.name.now (subst (λ (name : List ℕ). Saves (image_of g.O.OpClass.code_number t) old now name (Err Memory)) same
    (subst (λ e. Saves (image_of g.O.OpClass.code_number t) old now c.in-Ok.name.now (Err e)) c.in-Err-Memory.field-0-is c.in-Err-Memory.ensures.saves))
