-- The names of the clauses that an image fails.
use Rattle.std.specs.Prelude.{ℕ, List, codes}
use Rattle.spg_clauses.specs.declared.reason.Reason.{Reason}
use Rattle.spg_clauses.specs.declared.reason.Reason.TheVariants as reasons

-- the name of a clause, as it is printed
abbrev pub reason_name : Reason → List ℕ
reason_name reasons.Missing = codes "missing"
reason_name reasons.Length = codes "length"
reason_name reasons.Header = codes "header"
reason_name reasons.Class = codes "class"
reason_name reasons.Meta = codes "meta"
reason_name reasons.Items = codes "items"
reason_name reasons.Tuple = codes "tuple"
reason_name reasons.Kind = codes "kind"
reason_name reasons.Root = codes "root"
reason_name reasons.Redirect = codes "redirect"
reason_name reasons.Target = codes "target"
reason_name reasons.Count = codes "count"
reason_name reasons.Circle = codes "circle"
reason_name reasons.Key = codes "key"
reason_name reasons.Row = codes "row"
