-- The status and the line of each refusal.
use Rattle.std.specs.Prelude.{ℕ, List, [], ◌++◌, codes, Option, Some, None}
use Rattle.std.specs.Fmt.{decimal}
use Rattle.ob_base.specs.declared.fault.Fault.{Fault}
use Rattle.ob_base.specs.declared.fault.Fault.TheVariants.{Memory, Usage, BadScript, BadParams, NotStore, Damaged, StoreFault, StashFull, Worn, SourceFault, SinkFault}
use Rattle.ob_base.specs.declared.fault.Check.{Check}
use Rattle.ob_base.specs.declared.fault.Check.TheVariants.{Tag, Seal, Epoch, Form}
use Rattle.ob_base.specs.declared.fault.Field.{Field}
use Rattle.ob_base.specs.declared.fault.Field.TheVariants.{N, L, Z, S, R, BR, BW, E, T, LANES, COUNT, KEYS, READS, WRITES}
use Rattle.ob_report.specs.Report.{line_end}

abbrev pub fault_status : Fault → ℕ
fault_status Usage = 2
fault_status (BadScript line) = 2
fault_status (BadParams field) = 2
fault_status NotStore = 3
fault_status (Damaged cell check kept computed) = 4
fault_status (StoreFault unsure) = 5
fault_status (StashFull rows) = 6
fault_status SourceFault = 7
fault_status SinkFault = 7
fault_status (Worn number) = 8
fault_status Memory = 9

abbrev pub check_text : Check → List ℕ
check_text Tag = codes "tag"
check_text Seal = codes "seal"
check_text Epoch = codes "epoch"
check_text Form = codes "form"

abbrev pub field_text : Field → List ℕ
field_text N = codes "N"
field_text L = codes "L"
field_text Z = codes "Z"
field_text S = codes "S"
field_text R = codes "R"
field_text BR = codes "BR"
field_text BW = codes "BW"
field_text E = codes "E"
field_text T = codes "T"
field_text LANES = codes "LANES"
field_text COUNT = codes "COUNT"
field_text KEYS = codes "KEYS"
field_text READS = codes "READS"
field_text WRITES = codes "WRITES"

abbrev pub unsure_text : Option ℕ → List ℕ
unsure_text None = []
unsure_text (Some epoch) = codes ", epoch " ++ decimal epoch ++ codes " unsure"

abbrev pub fault_text : Fault → List ℕ
fault_text Usage = codes "usage"
fault_text (BadScript line) = codes "script line " ++ decimal line
fault_text (BadParams field) = codes "parameter " ++ field_text field
fault_text NotStore = codes "not a store"
fault_text (Damaged cell check kept computed) = codes "damaged cell " ++ decimal cell ++ codes " " ++ check_text check
fault_text (StoreFault unsure) = codes "store" ++ unsure_text unsure
fault_text (StashFull rows) = codes "stash full, " ++ decimal rows ++ codes " rows"
fault_text SourceFault = codes "source"
fault_text SinkFault = codes "sink"
fault_text (Worn number) = codes "worn at " ++ decimal number
fault_text Memory = codes "memory"

-- the status of an end, and the line that it adds to the output
abbrev pub status_of : Option Fault → ℕ
status_of None = 0
status_of (Some fault) = fault_status fault

abbrev pub fault_line : Option Fault → List ℕ
fault_line None = []
fault_line (Some fault) = codes "fault: " ++ fault_text fault ++ line_end
