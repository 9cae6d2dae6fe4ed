-- What the process tells at its end.
use Rattle.std.specs.Prelude.{ℕ, List, [], ◌∷◌, ◌++◌, Option, Some, None, Result, Ok, Err, codes}
use Rattle.std.specs.Fmt.{decimal}
use Rattle.spg_io.specs.declared.sink.IoRefused.{IoRefused}
use Rattle.spg_histories.specs.declared.status.Status.{Status}
use Rattle.spg_histories.specs.declared.status.Status.TheVariants.{Done, Usage, BadScript, ReadFault, WriteFault, ImageFault, BadImage, Memory, Full}
use Rattle.spg_verify.specs.Reasons.{reason_name}

-- the status of the process: a sink that did not finish is a write fault
abbrev pub last_status : {A : Type 0} → Status → Result A IoRefused → Status
last_status status (Ok x) = status
last_status status (Err why) = WriteFault

-- the words on standard error
abbrev pub words_of : Status → List ℕ
words_of Done = []
words_of Usage = codes "usage"
words_of (BadScript line) = codes "bad script line"
words_of ReadFault = codes "read fault"
words_of WriteFault = codes "write fault"
words_of ImageFault = codes "image fault"
words_of (BadImage block reason) = codes "bad image"
words_of Memory = codes "memory"
words_of Full = codes "full"

-- the number behind them
abbrev pub number_of : Status → Option ℕ
number_of Done = None
number_of Usage = None
number_of (BadScript line) = Some line
number_of ReadFault = None
number_of WriteFault = None
number_of ImageFault = None
number_of (BadImage block reason) = Some block
number_of Memory = None
number_of Full = None

-- the name of the clause behind the number
abbrev pub reason_of : Status → List ℕ
reason_of Done = []
reason_of Usage = []
reason_of (BadScript line) = []
reason_of ReadFault = []
reason_of WriteFault = []
reason_of ImageFault = []
reason_of (BadImage block reason) = reason_name reason
reason_of Memory = []
reason_of Full = []

-- the line on standard error; empty where there is none
abbrev pub line_of : Status → List ℕ
line_of Done = []
line_of Usage = codes "usage"
line_of (BadScript line) = codes "bad script line " ++ decimal line
line_of ReadFault = codes "read fault"
line_of WriteFault = codes "write fault"
line_of ImageFault = codes "image fault"
line_of (BadImage block reason) = codes "bad image " ++ decimal block ++ 32 ∷ reason_name reason
line_of Memory = codes "memory"
line_of Full = codes "full"

-- words, and behind them a number and the name of a clause, where there are such
abbrev pub line_with : List ℕ → Option ℕ → List ℕ → List ℕ
line_with words None reason = words
line_with words (Some number) [] = words ++ 32 ∷ decimal number
line_with words (Some number) (c ∷ reason) = words ++ 32 ∷ decimal number ++ 32 ∷ c ∷ reason
