-- Points, queries and conditions, for an embedder's own clauses.
pub use Rattle.spg_base.specs.declared.point.Point.{Point}
pub use Rattle.spg_base.specs.declared.point.PointCond.{PointCond}
pub use Rattle.spg_base.specs.declared.point.PointCond.TheVariants.{Inside}
pub use Rattle.spg_opclass.specs.declared.query.Query.{Query}
pub use Rattle.spg_opclass.specs.declared.query.Query.TheVariants.{All, Null, Where}
