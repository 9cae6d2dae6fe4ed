use Rattle.std.proofs.Common.{◌≡◌, ◌+◌, ◌-◌, length, take, drop, length-take-le, length-drop, ap, ◌∙◌, arith}
use Rattle.spg_scan.proofs.Replacing.{put_back}
use Rattle.spg_scan.proofs.InPlace.{behind_one}
use Rattle.spg_scan.proofs.in_place.move_in_place.Goals as goal

pub returns : goal.returns
returns g c =
    let xs = c.args.items.now.items in
    let i = c.args.at in
    let h = c.args.held in
    let k : length (take h xs) ≡ h = length-take-le h xs c.requires.held in
    put_back (take i xs) (drop (i + 1) (take h xs)) (drop h xs) c.deref_mut.result.now c.take_out.new.items.items c.rotate_left.new.self i (h - i - 1) c.take_out.new.items.len c.deref_mut.ensures.value
    (length-take-le i xs (omega arith)) (length-drop (i + 1) (take h xs) ∙ omega arith) (c.deref_mut.ensures.value ∙ c.take_out.ensures ∙ behind_one xs h i c.requires.at c.requires.held) c.rotate_left.ensures.after
    (omega (arith, c.take_out.new.items.ok.0, ap length c.deref_mut.ensures.value))
