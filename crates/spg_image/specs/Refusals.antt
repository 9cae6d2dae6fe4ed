-- A refusal of a call on the images as one of saving.
use Rattle.spg_io.specs.declared.sink.IoRefused.{IoRefused}
use Rattle.spg_io.specs.declared.sink.IoRefused.TheVariants as io
use Rattle.spg_image.specs.declared.refused.SaveRefused.{SaveRefused}
use Rattle.spg_image.specs.declared.refused.SaveRefused.TheVariants.{ImageFault, Memory}

abbrev pub refusal_of : IoRefused → SaveRefused
refusal_of io.Failed = ImageFault
refusal_of io.Memory = Memory
