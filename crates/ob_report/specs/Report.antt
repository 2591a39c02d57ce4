-- The text of records, each line ended by LF. A key of the kind K is spelled by key_text.
use Rattle.std.specs.Prelude.{ℕ, List, [], ◌∷◌, ◌++◌, flat_map, codes, Option, Some, None}
use Rattle.std.specs.Fmt.{decimal}
use Rattle.ob_base.specs.declared.op.Op.{Op}
use Rattle.ob_base.specs.declared.op.Op.TheVariants.{Get, Put, Del}
use Rattle.ob_serial.specs.declared.records.Outcome.{Outcome}
use Rattle.ob_serial.specs.declared.records.Outcome.TheVariants.{Committed, Aborted, Unsure}
use Rattle.ob_serial.specs.declared.records.Why.{Why}
use Rattle.ob_serial.specs.declared.records.Why.TheVariants.{Conflict, Depends, ReadsFull, WritesFull, ShareReads, ShareWrites, EpochEnd, Asked, Stopped}
use Rattle.ob_serial.specs.Serial.{TxnRecord, EpochRecord}

abbrev pub line_end : List ℕ
line_end = 10 ∷ []

module _ {K : Type 0} (key_text : K → List ℕ) where
  -- what a get found
  abbrev pub reply_text : Option (List ℕ) → List ℕ
  reply_text None = codes " absent"
  reply_text (Some value) = codes " = " ++ value

  abbrev pub op_line : Op K → List ℕ
  op_line (Get key reply source) = codes "get " ++ key_text key ++ reply_text reply ++ line_end
  op_line (Put key value) = codes "put " ++ key_text key ++ codes " " ++ value ++ line_end
  op_line (Del key) = codes "del " ++ key_text key ++ line_end

  abbrev pub why_text : Why K → List ℕ
  why_text (Conflict key reader) = codes "conflict key " ++ key_text key ++ codes " reader " ++ decimal reader
  why_text (Depends on) = codes "depends on " ++ decimal on
  why_text (ReadsFull queued left) = codes "reads full queued " ++ decimal queued ++ codes " left " ++ decimal left
  why_text (WritesFull keys) = codes "writes full keys " ++ decimal keys
  why_text (ShareReads keys) = codes "share reads " ++ decimal keys
  why_text (ShareWrites keys) = codes "share writes " ++ decimal keys
  why_text EpochEnd = codes "epoch end"
  why_text Asked = codes "asked"
  -- no record that is published has these two
  why_text (Stopped fault) = codes "stopped"

  abbrev pub outcome_text : Outcome K → List ℕ
  outcome_text Committed = codes "committed"
  outcome_text (Aborted why) = codes "aborted " ++ why_text why
  outcome_text (Unsure epoch) = codes "unsure"

  -- the line of a transaction
  abbrev pub head_line : TxnRecord K → List ℕ
  head_line t = codes "txn " ++ decimal t.ticket ++ codes " client " ++ decimal t.client ++ codes " " ++ outcome_text t.outcome ++ line_end

  abbrev pub txn_text : TxnRecord K → List ℕ
  txn_text t = head_line t ++ flat_map op_line t.ops

  abbrev pub record_text : EpochRecord K → List ℕ
  record_text r = codes "epoch " ++ decimal r.epoch ++ line_end ++ flat_map txn_text r.txns

  abbrev pub report : List (EpochRecord K) → List ℕ
  report records = flat_map record_text records
