-- What a class sees of an inner tuple that is read where it stands.
use Rattle.spg_opclass.specs.declared.view.InnerView.{InnerView}
use Rattle.spg_opclass.specs.declared.inner_ref.InnerRef.{InnerRef}
use Rattle.spg_opclass.specs.StoredLabels.{labels_in}

abbrev pub shown : InnerRef → InnerView
shown t = record { all_same = t.all_same; prefix = t.prefix.now; labels = labels_in t.labels }
