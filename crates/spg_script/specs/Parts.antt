-- How a block is kept, and how it is lent.
use Rattle.spg_script.specs.declared.part.Form.{Form}
use Rattle.spg_script.specs.declared.part.Form.TheVariants as forms
use Rattle.spg_script.specs.declared.part.PartRef.{PartRef}
use Rattle.spg_script.specs.declared.part.PartRef.TheVariants as refs
use Rattle.spg_script.specs.Blocks.{Part, alone_part, block_part}

abbrev pub part_of : Form → Part
part_of (forms.Alone c) = alone_part c
part_of (forms.Together lanes) = block_part lanes

abbrev pub lent_part : PartRef → Part
lent_part (refs.Alone c) = alone_part c.now
lent_part (refs.Together lanes) = block_part lanes.now
