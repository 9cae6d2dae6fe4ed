-- What a look at an insert finds, and what may guide its next section.
use Rattle.std.specs.Prelude.{⊤, ◌≡◌, ◌⊎◌, false, Option, option_copied, Some, None}
use Rattle.spg_opclass.specs.Meaning.{Meaning}
use Rattle.spg_opclass.specs.Copies.{AtTuple, RestsAt}
use Rattle.spg_page.specs.Reads.{frame_in}
use Rattle.spg_tree.specs.Table.{Table, tuple_at}
use Rattle.spg_tree.specs.Descents.{Descending, in_nulls}
use Rattle.spg_descend.specs.declared.rule.Rule.TheVariants as rules
use Rattle.spg_descend.specs.Follows.{IsAtInner, tuple_place}
use Rattle.spg_split.specs.Parting.{IsPartedAt}
use Rattle.spg_core.specs.Stage.{Stage, free, descending, reading, sweeping}
use Rattle.spg_core.specs.Telling.{IsRuleFor}
use Rattle.spg_core.specs.declared.found.Found.{Found}
use Rattle.spg_core.specs.declared.found.Found.TheVariants as finds
use Rattle.spg_core.specs.declared.guide.Guide.{Guide}
use Rattle.spg_core.specs.declared.guide.Guide.TheVariants as guides

-- ---- looks

-- the insert stands at this inner tuple of the main tree, with this rebuilt value and this rest of its key
abbrev pub IsSpottedAt : {Recon : Type 0} → Table → Descending Recon → AtTuple Recon → Type 0
IsSpottedAt t d x = IsAtInner t d.stand × (d.recon ≡ Some x.recon) × (x.tuple ≡ frame_in (tuple_at t (tuple_place d.stand))) × (x.rest ≡ d.rest)

-- it divides leaves of the main tree: these rests, its own the last, with this rebuilt value
abbrev pub IsBunchAt : {Recon : Type 0} → Table → Descending Recon → RestsAt Recon → Type 0
IsBunchAt t d x = IsRuleFor t d rules.Divide × IsPartedAt t d (Some x)

-- the class has a say in the next section: the insert stands at an inner tuple of the main tree, or divides leaves of it
abbrev pub AsksAt : {Recon : Type 0} → Table → Descending Recon → Type 0
AsksAt t d = (in_nulls d ≡ false) × (IsAtInner t d.stand ⊎ IsRuleFor t d rules.Divide)

-- a copy for the class where it has a say
abbrev pub IsFound : {O Key Recon Cond : Type 0} → Meaning Key Recon Cond → Table → Descending Recon → Found O Key Recon Cond → Type 0
IsFound m t d finds.Unasked = AsksAt t d → ⊥
IsFound m t d (finds.Choose spotted) = IsSpottedAt t d spotted
IsFound m t d (finds.Part bunch) = IsBunchAt t d bunch

-- ---- guides

-- this is a copy of the values that are divided where the insert stands; there is none where the class has no say
abbrev pub IsTold : {Recon : Type 0} → Table → Descending Recon → Option (RestsAt Recon) → Type 0
IsTold t d None = AsksAt t d → ⊥
IsTold t d (Some x) = IsBunchAt t d x

-- the class may decide anywhere, and what it chose or divided where a look gives just that copy
abbrev pub IsGuided : {O Key Recon Cond : Type 0} → Meaning Key Recon Cond → Table → Descending Recon → Guide O Key Recon Cond → Type 0
IsGuided m t d (guides.Class class) = ⊤
IsGuided m t d (guides.Chosen chosen) = IsSpottedAt t d chosen.now
IsGuided m t d (guides.Parted parted) = IsTold t d (option_copied parted)

-- so it is for the insert that is open at this stage
abbrev pub GuidedIn : {O Key Recon Cond : Type 0} → Meaning Key Recon Cond → Table → Stage O Key Recon Cond → Guide O Key Recon Cond → Type 0
GuidedIn m t free guide = ⊥
GuidedIn m t (descending key d) guide = IsGuided m t d guide
GuidedIn m t (reading s) guide = ⊥
GuidedIn m t (sweeping v) guide = ⊥
