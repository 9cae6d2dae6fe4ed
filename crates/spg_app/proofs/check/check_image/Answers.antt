use Rattle.std.proofs.Common.{inl, inr, refl}
use Rattle.spg_image.specs.Verifying.{IsBadImage}
use Rattle.spg_app.specs.Beginning.{outside}
use Rattle.spg_app.specs.Ending.{writing_of}
use Rattle.spg_app.proofs.Outcomes.{wrote_of, cause_of}
use Rattle.spg_app.proofs.Begins.{bad_refusal, refusal_as}
use Rattle.spg_app.proofs.check.check_image.Goals as goal

pub returns-in-Err : goal.returns-in-Err
returns-in-Err g c =
    let held = g.M.Images.held c.args.images.now in
    let now = g.M.Images.held c.verify.new.images in
    let faults = g.M.Images.faults c.args.images.now in
    let faults_now = g.M.Images.faults c.verify.new.images in
    record {
      read = record { stays = c.verify.ensures.stays; later = c.verify.ensures.cause.later };
      tells = inr (record {
        refusal = refusal_as IsBadImage c.args.name.now (outside held faults) (outside now faults_now) c.in-Err.refused c.status_of.result c.status_of.ensures (bad_refusal c.args.name.now held now faults faults_now c.in-Err.refused c.in-Err.ensures.value c.in-Err.ensures.cause);
        sink = refl;
      });
    }

pub returns-in-Ok : goal.returns-in-Ok
returns-in-Ok g c = record {
  read = record { stays = c.verify.ensures.stays; later = c.verify.ensures.cause.later };
  tells = inl (record {
    verified = c.in-Ok.verified;
    image = c.in-Ok.ensures.value;
    unfailed = c.in-Ok.ensures.cause.answered;
    writing = writing_of c.write_counts.result;
    wrote = wrote_of c.write_counts.result _ _ _ c.write_counts.ensures.ok c.write_counts.ensures.err;
    cause = cause_of c.write_counts.result _ _ c.write_counts.ensures.cause;
    status_is = c.status_after.ensures;
  });
}
