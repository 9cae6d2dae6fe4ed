use Rattle.std.proofs.Common.{sym, subst}
use Rattle.spg_image.specs.declared.class.ImageClass.{ImageClass}
use Rattle.spg_image.proofs.Matching.{AnswersAs}
use Rattle.spg_image.proofs.loading.verify_as.Goals as goal

pub returns-in-Quad-clause-value : goal.returns-in-Quad-clause-value
returns-in-Quad-clause-value g c = subst (λ (k : ImageClass). AnswersAs (g.M.Images.held c.args.images.now) c.args.name.now c.args.len c.args.meta_page.now c.verify_class.result k) (sym c.in-Quad.is) c.verify_class.ensures.value

pub returns-in-Kd-clause-value : goal.returns-in-Kd-clause-value
returns-in-Kd-clause-value g c = subst (λ (k : ImageClass). AnswersAs (g.M.Images.held c.args.images.now) c.args.name.now c.args.len c.args.meta_page.now c.verify_class-in-Kd.result k) (sym c.in-Kd.is) c.verify_class-in-Kd.ensures.value

pub returns-in-Radix-clause-value : goal.returns-in-Radix-clause-value
returns-in-Radix-clause-value g c = subst (λ (k : ImageClass). AnswersAs (g.M.Images.held c.args.images.now) c.args.name.now c.args.len c.args.meta_page.now c.verify_class-in-Radix.result k) (sym c.in-Radix.is) c.verify_class-in-Radix.ensures.value

pub returns-in-Range-clause-value : goal.returns-in-Range-clause-value
returns-in-Range-clause-value g c = subst (λ (k : ImageClass). AnswersAs (g.M.Images.held c.args.images.now) c.args.name.now c.args.len c.args.meta_page.now c.verify_class-in-Range.result k) (sym c.in-Range.is) c.verify_class-in-Range.ensures.value

pub returns-in-QuadValue-clause-value : goal.returns-in-QuadValue-clause-value
returns-in-QuadValue-clause-value g c = subst (λ (k : ImageClass). AnswersAs (g.M.Images.held c.args.images.now) c.args.name.now c.args.len c.args.meta_page.now c.verify_class-in-QuadValue.result k) (sym c.in-QuadValue.is) c.verify_class-in-QuadValue.ensures.value

pub returns-in-KdValue-clause-value : goal.returns-in-KdValue-clause-value
returns-in-KdValue-clause-value g c = subst (λ (k : ImageClass). AnswersAs (g.M.Images.held c.args.images.now) c.args.name.now c.args.len c.args.meta_page.now c.verify_class-in-KdValue.result k) (sym c.in-KdValue.is) c.verify_class-in-KdValue.ensures.value

pub returns-in-RadixValue-clause-value : goal.returns-in-RadixValue-clause-value
returns-in-RadixValue-clause-value g c = subst (λ (k : ImageClass). AnswersAs (g.M.Images.held c.args.images.now) c.args.name.now c.args.len c.args.meta_page.now c.verify_class-in-RadixValue.result k) (sym c.in-RadixValue.is) c.verify_class-in-RadixValue.ensures.value
