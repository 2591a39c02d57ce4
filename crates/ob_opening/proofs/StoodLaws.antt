-- An opening of a store that stood.
use Rattle.std.proofs.Common.{◌≡◌, suc, ◌+◌, ◌^◌, List, Result, Ok, Err, OnOk, IfOk, IfErr, length, sym, ◌∙◌, ap, subst}
use Rattle.ob_base.specs.declared.params.Params.{Params}
use Rattle.ob_base.specs.declared.fault.Fault.{Fault}
use Rattle.ob_base.specs.declared.fault.Fault.TheVariants.{Memory, Usage, BadScript, BadParams, NotStore, Damaged, StoreFault, StashFull, Worn, SourceFault, SinkFault}
use Rattle.ob_store.specs.Disk.{Disk, Image}
use Rattle.ob_seal.specs.declared.keys.Keys.{Keys}
use Rattle.ob_twin.specs.Keyed.{tagging}
use Rattle.ob_twin.specs.Register.{StandsAt}
use Rattle.ob_tables.specs.Content.{Content}
use Rattle.ob_stand.specs.Table.{flat_of}
use Rattle.ob_log.specs.Logs.{BatchRecord}
use Rattle.ob_stand.specs.Reads.{slots_in}
use Rattle.ob_stand.specs.Stands.{RingStanding, Stands, with_generation}
use Rattle.ob_recover.specs.declared.found.Found.{Found}
use Rattle.ob_recover.specs.Finds.{IsFoundOf}
use Rattle.ob_recover.specs.Repeats.{AreRepeated, IsPlannerOf, IsRepeatDamage}
use Rattle.ob_recover.proofs.StandingReads.{map_kept, none_damaged}
use Rattle.ob_opening.specs.declared.opening.Opening.{Opening}
use Rattle.ob_opening.specs.OpeningParts.{IsFoundFault, IsFoundRefusal}
use Rattle.ob_opening.specs.Openings.{IsOpenedAt, IsOpeningOf, IsStandingRefusal, IsToldOpening, OpensWhatStood, fresh_sealer}
use Rattle.ob_opening.proofs.Movings.{repeated_off, stands_in}
use Rattle.ob_opening.proofs.OpenedLaws.{next_stands}

module _ (keys : Keys) (p : Params) (s : RingStanding) (old : Image) (new : Disk) (found : Found) (stands : Stands keys p s old) (is : IsFoundOf s found) where
  -- the opening has what stood, and the store stands for it still
  opened_at : {L : Type 0} (o : Opening L) → IsOpeningOf keys p found o → IsToldOpening keys p old new found o → StandsAt (tagging keys) 1 new.cells (suc found.generation) → IsOpenedAt keys p s new o
  opened_at o opening told begun =
      let rows = ((o.ring).stash).rows in
      let here : StandsAt (tagging keys) 1 new.cells (suc s.generation) = subst (λ n. StandsAt (tagging keys) 1 new.cells (suc n)) is.generation begun in
      let stands_new : Stands keys p (with_generation s (suc s.generation)) new.cells = next_stands keys p s old new.cells stands (record { stands = here; rest = told.rest }) in
      let read : AreRepeated p (slots_in keys p s.content new.cells) (flat_of p s.content) s.content.rows rows s.records =
      repeated_off keys p s.content old new.cells rows s.records (λ k off. sym (told.rest k off))
      (subst (λ (l : List BatchRecord). AreRepeated p (slots_in keys p s.content old) (flat_of p s.content) s.content.rows rows l) is.records
      (subst (λ (c : Content). AreRepeated p (slots_in keys p c old) (flat_of p c) c.rows rows found.records) is.content told.repeated)) in
      record {
        params = opening.params;
        sealer = opening.sealer ∙ ap (λ n. fresh_sealer keys (suc n)) is.generation;
        epoch = opening.epoch ∙ is.epoch;
        left = subst (λ (l : List BatchRecord). o.left + length l ≡ p.batches) is.records opening.left;
        planner = subst (λ (l : List BatchRecord). IsPlannerOf p s.content l o.ring) is.records (subst (λ (c : Content). IsPlannerOf p c found.records o.ring) is.content opening.planner);
        read = read;
        map = map_kept keys p (with_generation s (suc s.generation)) new.cells stands_new rows read;
        gates = (told.generation_gates, told.epoch_gates);
        settled = told.settled;
        stands = stands_new;
        images = stands_in keys p (with_generation s (suc s.generation)) new told.settled stands_new;
      }

  -- or it was refused, but for no damage
  refused_at : (f : Fault) → IsFoundFault found.generation f → IsFoundRefusal keys p old found f → IsStandingRefusal s f
  refused_at Memory fault was = absurd fault
  refused_at Usage fault was = absurd fault
  refused_at (BadScript line) fault was = absurd fault
  refused_at (BadParams field) fault was = absurd fault
  refused_at NotStore fault was = absurd fault
  refused_at (Damaged cell check kept computed) fault was = absurd (none_damaged keys p s old stands found.records (record { cell = cell; check = check; kept = kept; computed = computed })
      (subst (λ (c : Content). IsRepeatDamage keys p old c found.records (record { cell = cell; check = check; kept = kept; computed = computed })) is.content was))
  refused_at (StoreFault unsure) fault was = tt
  refused_at (StashFull rows) fault was = absurd fault
  refused_at (Worn number) fault was = subst (λ n. suc n ≡ 2 ^ 62) is.generation fault.1
  refused_at SourceFault fault was = absurd fault
  refused_at SinkFault fault was = absurd fault

  pub all_standing : {L : Type 0} (r : Result (Opening L) Fault) → IfOk r (IsOpeningOf keys p found) → IfOk r (IsToldOpening keys p old new found) → OnOk r (StandsAt (tagging keys) 1 new.cells (suc found.generation))
      → IfErr r (IsFoundFault found.generation) → IfErr r (IsFoundRefusal keys p old found) → OpensWhatStood keys p s new r
  all_standing (Ok o) opening told begun fault was = opened_at o opening told begun
  all_standing (Err f) opening told begun fault was = refused_at f fault was
