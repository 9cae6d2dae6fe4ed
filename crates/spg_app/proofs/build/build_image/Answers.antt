use Rattle.std.proofs.Common.{inl, inr, refl}
use Rattle.spg_app.specs.Ending.{writing_of}
use Rattle.spg_app.proofs.Outcomes.{wrote_of, cause_of}
use Rattle.spg_app.proofs.build.build_image.Goals as goal

pub returns-in-Err : goal.returns-in-Err
returns-in-Err g c = inl (c.in-Err.ensures.status, record { sink = refl; images = refl })

pub returns-in-Ok-create_by_class : goal.returns-in-Ok-create_by_class
returns-in-Ok-create_by_class g c = inr (record {
  inserts = c.in-Ok.inserts;
  gave = c.in-Ok.ensures.inserts;
  unfailed = c.in-Ok.ensures.unfailed;
  ends = inl (record {
    created = c.in-Ok-create_by_class.created;
    creation = c.in-Ok-create_by_class.ensures;
    writing = writing_of c.write_created.result;
    wrote = wrote_of c.write_created.result _ _ _ c.write_created.ensures.ok c.write_created.ensures.err;
    cause = cause_of c.write_created.result _ _ c.write_created.ensures.cause;
    status_is = c.status_after.ensures;
  });
})

pub returns : goal.returns
returns g c = inr (record {
  inserts = c.in-Ok.inserts;
  gave = c.in-Ok.ensures.inserts;
  unfailed = c.in-Ok.ensures.unfailed;
  ends = inr (record {
    why = c.in-Err-create_by_class.refused;
    creation = c.in-Err-create_by_class.ensures;
    status_is = c.unbuilt_status.ensures;
    sink = refl;
  });
})
