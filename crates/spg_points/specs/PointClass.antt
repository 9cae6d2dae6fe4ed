-- What a class of points chooses for itself, and what is common to all of them.
use Rattle.std.specs.Prelude.{ℕ, pos, ◌==◌, Bool, true, false, if◌then◌else◌, ◌&&◌, List, length, replicate, Option, Some, None}
use Rattle.std.specs.List.{list_all}
use Rattle.std.specs.Ordering.{int_eq}
use Rattle.spg_base.specs.declared.point.Point.{Point}
use Rattle.spg_base.specs.declared.point.PointCond.{PointCond}
use Rattle.spg_base.specs.Points.{cond_holds}
use Rattle.spg_opclass.specs.declared.view.InnerView.{InnerView}
use Rattle.spg_opclass.specs.declared.view.Choice.TheVariants.{Match}
use Rattle.spg_opclass.specs.declared.view.Picked.{Picked}
use Rattle.spg_opclass.specs.Meaning.{Meaning}
use Rattle.spg_points.specs.declared.area.Area.{Area}
use Rattle.spg_points.specs.Codec.{is_point, bytes_of_point, point_of}
use Rattle.spg_points.specs.Areas.{whole, in_area, kept_by}

-- a rest is a whole point
abbrev pub is_point_bytes : List ℕ → Bool
is_point_bytes bytes = length bytes == 8

unfoldable pub rebuilt : List ℕ → Option Point
rebuilt bytes = if is_point_bytes bytes then Some (point_of bytes) else None

-- an all-the-same tuple has 8 nodes, another one as many as the class has
unfoldable pub count_ok : ℕ → Bool → ℕ → Bool
count_ok count all_same found = if all_same then found == 8 else (found == count)

-- the labels of a class without labels: 0 each
unfoldable pub plain_nodes : ℕ → InnerView → Bool
plain_nodes count tuple = list_all (λ l. int_eq l (pos 0)) tuple.labels && count_ok count tuple.all_same (length tuple.labels)

-- what a class of points chooses for itself
pub record PointClass (Recon : Type 0) : Type 0 where
  -- the rebuilt value at the root, and of a child
  pub start : Recon
  pub down : Recon → Recon
  -- the length of a prefix in bytes, and how many nodes a tuple has
  pub prefix_length : ℕ
  pub node_count : ℕ
  -- by the prefix: the points that a node admits, and the node to which a point goes
  pub area : Recon → List ℕ → ℕ → Area
  pub side : Recon → List ℕ → Point → ℕ
  -- to which nodes a division puts rests, and its prefix
  pub prefix_for : Recon → List (List ℕ) → List ℕ
  pub nodes_for : Recon → List (List ℕ) → List ℕ

-- the points that a node of a tuple admits: every point where the tuple is all-the-same
unfoldable pub node_area : {Recon : Type 0} → PointClass Recon → Recon → InnerView → ℕ → Area
node_area kind recon tuple node = if tuple.all_same then whole else kind.area recon tuple.prefix node

-- the node to which a rest goes: the first one where the tuple is all-the-same
unfoldable pub node_for : {Recon : Type 0} → PointClass Recon → Recon → InnerView → List ℕ → ℕ
node_for kind recon tuple rest = if tuple.all_same then 0 else kind.side recon tuple.prefix (point_of rest)

-- how rests are divided: each of them stays as it is
unfoldable pub divided_by : {Recon : Type 0} → PointClass Recon → Recon → List (List ℕ) → Picked
divided_by kind recon rests = record {
  prefix = kind.prefix_for recon rests;
  labels = replicate kind.node_count (pos 0);
  node_of = kind.nodes_for recon rests;
  rests = rests;
}

-- the meaning of a class of points
abbrev pub meaning_of : {Recon : Type 0} → PointClass Recon → Meaning Point Recon PointCond
meaning_of kind = record {
  labels = false;
  start = kind.start;
  is_key = is_point;
  bare = bytes_of_point;
  is_recon = λ _. true;
  is_cond = λ _. true;
  rest_of = bytes_of_point;
  rebuild = λ _ rest. rebuilt rest;
  longest = 8;
  is_prefix = λ prefix. length prefix == kind.prefix_length;
  is_rest = is_point_bytes;
  has_nodes = plain_nodes kind.node_count;
  answer = λ recon tuple rest. Match (node_for kind recon tuple rest) rest;
  parts = divided_by kind;
  down = λ recon _ _. kind.down recon;
  admits = λ recon tuple node key. in_area (node_area kind recon tuple node) key;
  holds = cond_holds;
  kept = λ recon tuple conds. kept_by (node_area kind recon tuple) conds (length tuple.labels);
}
