-- An opening of a ring store: what it gives, and what of the store it was made of.
use Rattle.std.specs.Prelude.{◌≡◌, ◌⊎◌, ℕ, suc, ◌+◌, ◌<◌, ◌*◌, ◌^◌, max, length, None, Result, Ok, Err}
use Rattle.ob_base.specs.declared.params.Params.{Params}
use Rattle.ob_base.specs.declared.fault.Damaged.{Damaged}
use Rattle.ob_base.specs.declared.fault.Fault.{Fault}
use Rattle.ob_base.specs.declared.fault.Fault.TheVariants as fault
use Rattle.ob_base.specs.Tree.{buckets, width}
use Rattle.ob_store.specs.Disk.{Disk, Image}
use Rattle.ob_store.specs.Images.{IsSynced}
use Rattle.ob_seal.specs.declared.keys.Keys.{Keys}
use Rattle.ob_seal.specs.Sealing.{Sealing}
use Rattle.ob_twin.specs.Opening.{GatesAre}
use Rattle.ob_twin.specs.Reading.{NoneOpen}
use Rattle.ob_twin.specs.Register.{SameOutside}
use Rattle.ob_start.specs.Beginning.{gates_begun}
use Rattle.ob_tables.specs.Content.{content_of}
use Rattle.ob_stand.specs.Table.{flat_of}
use Rattle.ob_stand.specs.Carries.{Carries}
use Rattle.ob_stand.specs.Reads.{slots_in}
use Rattle.ob_stand.specs.Stands.{RingStanding, Stands, with_generation}
use Rattle.ob_recover.specs.declared.found.Found.{Found}
use Rattle.ob_recover.specs.Finds.{IsFindDamage, IsFoundInRing, ObeysFound}
use Rattle.ob_recover.specs.Fits.{IsPlannerFit}
use Rattle.ob_recover.specs.Repeats.{AllRowsJoin, AreRepeated, IsPlannerOf, IsRepeatDamage, table_after_records}
use Rattle.ob_opening.specs.declared.opening.Opening.{Opening}

-- ---- room

-- the most words that are drawn at once: for a batch, for an end's writes, for the indexes of all buckets
abbrev pub words_room : Params → ℕ
words_room p = max (max p.places p.writes) (buckets p * width p)

-- ---- what an opening gives

-- a new generation's sealer, which has sealed nothing
abbrev pub fresh_sealer : Keys → ℕ → Sealing
fresh_sealer keys generation = record { keys = keys; generation = generation; next = 0 }

-- Of what was found: its parameters and epoch, the next generation's sealer and gate, the planner behind the records' batches with the
-- rows that they read, and so many batches fewer. What was found obeys the rules, and the planner's numbers are in range, whatever the
-- store tells.
pub record IsOpeningOf {L : Type 0} (keys : Keys) (p : Params) (found : Found) (o : Opening L) : Type 0 where
  pub obeys : ObeysFound p found
  pub params : o.params ≡ p
  pub sealer : o.sealer ≡ fresh_sealer keys (suc found.generation)
  pub gates : o.gates ≡ gates_begun found.generation found.gates (Ok (suc found.generation))
  pub epoch : o.epoch ≡ found.epoch
  pub left : o.left + length found.records ≡ p.batches
  pub planner : IsPlannerOf p (content_of found.tables) found.records o.ring
  pub joins : AllRowsJoin p (flat_of p (content_of found.tables)) found.records (content_of found.tables).rows ((o.ring).stash).rows
  pub fit : IsPlannerFit o.ring

-- The store told it so: it was found in the cells, the records' batches were read there, no cell differs but those of the generation's
-- register, no write waits for a sync, and the gates are told as they are.
pub record IsToldOpening {L : Type 0} (keys : Keys) (p : Params) (old : Image) (new : Disk) (found : Found) (o : Opening L) : Type 0 where
  pub found_in : IsFoundInRing keys p old found
  pub repeated : AreRepeated p (slots_in keys p (content_of found.tables) old) (flat_of p (content_of found.tables)) (content_of found.tables).rows ((o.ring).stash).rows found.records
  pub rest : SameOutside 1 new.cells old
  pub settled : IsSynced new
  pub generation_gates : GatesAre (o.gates).generation 1 new.cells
  pub epoch_gates : GatesAre (o.gates).epoch 5 new.cells

-- ---- where the store stood

-- What an opening of a store that stood for this is: it has its epoch, content, records and map, and the store, in each image that a
-- crash may leave, stands for them at the opening's generation, which is the next one.
pub record IsOpenedAt {L : Type 0} (keys : Keys) (p : Params) (s : RingStanding) (new : Disk) (o : Opening L) : Type 0 where
  pub params : o.params ≡ p
  pub sealer : o.sealer ≡ fresh_sealer keys (suc s.generation)
  pub epoch : o.epoch ≡ s.epoch
  pub left : o.left + length s.records ≡ p.batches
  pub planner : IsPlannerOf p s.content s.records o.ring
  pub read : AreRepeated p (slots_in keys p s.content new.cells) (flat_of p s.content) s.content.rows ((o.ring).stash).rows s.records
  pub map : Carries p (table_after_records p (flat_of p s.content) s.records) ((o.ring).stash).rows (slots_in keys p s.content new.cells) s.map
  pub gates : GatesAre (o.gates).generation 1 new.cells × GatesAre (o.gates).epoch 5 new.cells
  pub settled : IsSynced new
  pub stands : Stands keys p (with_generation s (suc s.generation)) new.cells
  pub images : (c : Image) → new.may_leave c → Stands keys p (with_generation s (suc s.generation)) c

-- then it is refused for memory, for its store, or where no generation is left
abbrev pub IsStandingRefusal : RingStanding → Fault → Type 0
IsStandingRefusal s (fault.Worn number) = suc s.generation ≡ 2 ^ 62
IsStandingRefusal s (fault.StoreFault unsure) = Unit {0}
IsStandingRefusal s fault.Memory = Unit {0}
IsStandingRefusal s _ = ⊥

abbrev pub OpensWhatStood : {L : Type 0} → Keys → Params → RingStanding → Disk → Result (Opening L) Fault → Type 0
OpensWhatStood keys p s new (Ok o) = IsOpenedAt keys p s new o
OpensWhatStood keys p s new (Err refused) = IsStandingRefusal s refused

-- ---- its refusals

-- all is found, and the generation was the last one
pub record IsLastGeneration (keys : Keys) (p : Params) (image : Image) : Type 0 where
  pub found : Found
  pub found_in : IsFoundInRing keys p image found
  pub last : suc found.generation ≡ 2 ^ 62

-- all is found, another generation may begin, and a batch of a record is damaged
pub record IsRepeatRefused (keys : Keys) (p : Params) (image : Image) (damaged : Damaged) : Type 0 where
  pub found : Found
  pub found_in : IsFoundInRing keys p image found
  pub more : suc found.generation < 2 ^ 62
  pub damage : IsRepeatDamage keys p image (content_of found.tables) found.records damaged

-- where the store tells its cells
abbrev pub IsOpenRefusal : Keys → Params → Image → Fault → Type 0
IsOpenRefusal keys p image fault.NotStore = NoneOpen 1 image ⊎ NoneOpen 5 image
IsOpenRefusal keys p image (fault.Damaged cell check kept computed) =
    IsFindDamage keys p image (record { cell = cell; check = check; kept = kept; computed = computed })
    ⊎ IsRepeatRefused keys p image (record { cell = cell; check = check; kept = kept; computed = computed })
IsOpenRefusal keys p image (fault.Worn number) = (number ≡ 2 ^ 62) × IsLastGeneration keys p image
IsOpenRefusal keys p image (fault.StoreFault unsure) = unsure ≡ None
IsOpenRefusal keys p image fault.Memory = Unit {0}
IsOpenRefusal keys p image _ = ⊥

abbrev pub IsOpenFault : Fault → Type 0
IsOpenFault fault.Memory = Unit {0}
IsOpenFault fault.NotStore = Unit {0}
IsOpenFault (fault.Damaged cell check kept computed) = Unit {0}
IsOpenFault (fault.Worn number) = number ≡ 2 ^ 62
IsOpenFault (fault.StoreFault unsure) = unsure ≡ None
IsOpenFault _ = ⊥
