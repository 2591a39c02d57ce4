-- The headline, from what a run has done.
use Rattle.std.proofs.Common.{◌≤◌, ◌≡◌, ◌∙◌, ◌+◌, ℕ, suc, Bool, not, List, [], ◌∷◌, ◌++◌, length, map, Option, Some, None, refl, sym, subst, inl, inr, arith, ap, true, false}
use Rattle.std.proofs.lemmas.List.{append-nil}
use Rattle.ob_base.specs.declared.fault.Fault.{Fault}
use Rattle.ob_top.proofs.Early.{early_cause}
use Rattle.std.specs.Borrow.{Bor}
use Rattle.std.specs.Ordering.{nat_cmp}
use Rattle.std.specs.Prelude.{decimal}
use Rattle.ob_base.specs.Causes.{Rose}
use Rattle.ob_base.specs.declared.fault.Fault.TheVariants.{Memory, Usage, BadScript, BadParams, NotStore, Damaged, StoreFault, StashFull, Worn, SourceFault, SinkFault}
use Rattle.ob_base.specs.declared.params.Params.{Params}
use Rattle.ob_conduct.specs.Acts.{calls, history, fault_of}
use Rattle.ob_conduct.specs.Records.{IsOver, contents}
use Rattle.ob_conduct.specs.declared.run_err.RunErr.{RunErr}
use Rattle.ob_conduct.specs.declared.run_err.RunErr.TheVariants as failed
use Rattle.ob_desk.specs.Beats.{BeatKind}
use Rattle.ob_io.specs.Flows.{appended}
use Rattle.ob_io.specs.Streams.{Flow}
use Rattle.ob_recover.proofs.Pads.{life_goes_on}
use Rattle.ob_recover.specs.Calls.{Finds}
use Rattle.ob_recover.specs.Life.{IsLife, LifeAct, LifeState, reached}
use Rattle.ob_report.specs.Faults.{fault_line, status_of, fault_status}
use Rattle.ob_report.specs.Printed.{IsPrinted}
use Rattle.ob_report.specs.Report.{report}
use Rattle.ob_script.specs.Script.{Scripts}
use Rattle.ob_seal.specs.declared.keys.Keys.{Keys}
use Rattle.ob_serial.specs.Serial.{EpochRecord, Map, OneByOne, committed_of}
use Rattle.ob_serial.specs.Vaults.{Standing, VaultAnswer, VaultCall}
use Rattle.ob_session.proofs.Runs.{records_tell}
use Rattle.ob_session.specs.Clients.{said_by, told_of}
use Rattle.ob_session.specs.Records.{TellAll, txns_by}
use Rattle.ob_store.proofs.Keeping.{same_none}
use Rattle.ob_store.proofs.Moments.{leaves_of}
use Rattle.ob_store.proofs.Serving.{rose_later}
use Rattle.ob_store.specs.Calls.{GoesOn}
use Rattle.ob_store.specs.Disk.{Disk, Image}
use Rattle.ob_store.specs.Images.{IsImageOf, LeavesOnly, Passes, Same}
use Rattle.ob_store.specs.Lines.{Trace, open_line}
use Rattle.ob_twin.specs.Clear.{AreInClearBut}
use Rattle.ob_twin.specs.Keyed.{tagging}
use Rattle.ob_vault.proofs.Standing.{ring_keeps}
use Rattle.ob_vault.proofs.Whole.{reached_join, whole_run}
use Rattle.ob_vault.specs.Acts.{AreBatchesSmall, AreTapeWords}
use Rattle.ob_vault.specs.Kinds.{AllStand, IsOpenedAt, Stands, StandsAsBefore}
use Rattle.ob_vault.specs.Lives.{IsLeftInLife, IsNextInLife, IsOpenedInLife, IsRunInLife, opening_acts}
use Rattle.ob_vault.specs.RingLives.{ring_lives}
use Rattle.ob_top.specs.Audited.{ring_audits}
use Rattle.ob_vault.specs.RingKind.{RingFound, ring_hidden, ring_kind}
use Rattle.ob_vault.specs.Shapes.{Shape, answered, refused, shapes}
use Rattle.ob_words.proofs.Named.{keys_stand, no_bad_lanes, one_keys, one_shares}
use Rattle.ob_shares.specs.declared.shares.Shares.{Shares}
use Rattle.ob_words.specs.Reading.{AskedShares}
use Rattle.ob_words.specs.Work.{AreLanes, AreShares, HasKeys}
use Rattle.ob_top.specs.Calls.{RunCall, EndPoint, IsRunCause, end_point}
use Rattle.ob_top.specs.Endings.{told_fault}
use Rattle.ob_top.specs.Headline.{Headline, RunTold, Stood}
use Rattle.ob_top.specs.Listed.{AreListed}
use Rattle.ob_top.specs.Outside.{ErrTold, Given, HasTrace, Outside, blind, outside, IsOnlyTold}
use Rattle.ob_top.specs.Pasts.{LeadsTo, PastLife, life_of, with_acts}
use Rattle.ob_top.specs.Promised.{is_lacking, Promised, Unserved, faults_of, IsEarlyCause}
use Rattle.ob_top.specs.Runs.{EndsEarly, EndsFor, IsLeftOnDisk, Ran, RunDone, Went}
use Rattle.ob_top.specs.Parts.{IsInClearBehind, EndsWith, IsNextEpoch, manner}
use Rattle.ob_top.specs.Sound.{StandsOn}
use Rattle.ob_top.specs.Top.{ByTrace}
use Rattle.ob_top.proofs.Completing.{RunTells, rose_added}
use Rattle.ob_top.proofs.Counted.{one_lanes}
use Rattle.ob_top.proofs.Living.{whole_clear, whole_lives}
use Rattle.ob_top.proofs.Lasting.{fresh_on, idle_at, leads_on, past_on, opened_there, opened_turn, stopped_next}
use Rattle.ob_desk.specs.Desk.{setup_with}

no_rise : Rose 0 0 → ⊥
no_rise rose = omega (arith, rose)

-- the next epoch's record, of the map that was found
next_of : (IsMap : Map nat_cmp → Type 0) (m : Map nat_cmp) (epoch : ℕ) (script : Scripts) (records : List (EpochRecord ℕ)) (next : Option (EpochRecord ℕ)) → IsMap m → IsNextEpoch IsMap epoch script records next → IsNextEpoch (λ n. n ≡ m) epoch script records next
next_of IsMap m epoch script records None is comes = tt
next_of IsMap m epoch script records (Some r) is comes = record {
  epoch_is = comes.epoch_is;
  served = comes.served;
  in_order = comes.in_order;
  one_by_one = λ n same. subst (λ (x : Map nat_cmp). OneByOne nat_cmp x (committed_of (records ++ r ∷ [])) (contents x (records ++ r ∷ []))) (sym same) (comes.one_by_one m is);
}

module _ {S : Type 0} (disk : S → Disk) (keys : Keys) (call : RunCall S) (t u : Trace) (traced : Rose t.faults u.faults → Rose call.traced_before call.traced_after) where
  -- why it ended
  module _ (between : S) (midway : Trace) (written : Flow) (later : (disk call.old).faults ≤ (disk between).faults) (watch_later : t.faults ≤ midway.faults) where
    cause_of : (p : Params) (found : RingFound) (so_far : List Shape) (end : EndPoint) (err : Option RunErr) → ErrTold written call.after.output err
        → EndsFor ring_kind keys p found (disk between) end.behind so_far end.epochs end.call end.words (disk between) (disk call.new) call.before.output written midway u err → IsRunCause disk keys p call found between end err
    cause_of p found so_far end None line cause = tt
    cause_of p found so_far end (Some failed.Unwatched) line (broken, rose) = traced (rose_later t.faults midway.faults u.faults watch_later rose)
    cause_of p found so_far end (Some (failed.Fault Memory)) line cause = tt
    cause_of p found so_far end (Some (failed.Fault SinkFault)) line cause = subst (λ (o : Flow). Rose call.before.output.faults o.faults) (sym line) cause
    cause_of p found so_far end (Some (failed.Fault (StoreFault unsure))) line (rose, which) = (rose_later (disk call.old).faults (disk between).faults (disk call.new).faults later rose, which)
    cause_of p found so_far end (Some (failed.Fault (Worn number))) line cause = cause
    cause_of p found so_far end (Some (failed.Fault Usage)) line cause = cause
    cause_of p found so_far end (Some (failed.Fault (BadScript bad))) line cause = cause
    cause_of p found so_far end (Some (failed.Fault (BadParams field))) line cause = cause
    cause_of p found so_far end (Some (failed.Fault NotStore)) line cause = cause
    cause_of p found so_far end (Some (failed.Fault (Damaged cell check kept computed))) line cause = cause
    cause_of p found so_far end (Some (failed.Fault (StashFull rows))) line cause = cause
    cause_of p found so_far end (Some (failed.Fault SourceFault)) line cause = cause

  module _ (includes_reads : (x : S) → (disk x).tells → (disk x).leaves → (disk x).may_leave (disk x).cells) (goes : GoesOn (disk call.old) (disk call.new)) (at : Standing) (past : PastLife) (err : Option RunErr) (written : Flow) (line : ErrTold written call.after.output err) where
    abbrev Output : List (EpochRecord ℕ) → Type 0
    Output records = (call.status ≡ status_of (told_fault err)) × IsPrinted call.before.output call.after.output (report decimal records ++ fault_line (told_fault err)) × (err ≡ None → call.after.output.bytes ≡ appended call.before.output.bytes (report decimal records))

    module _ (records : List (EpochRecord ℕ)) (r : Ran ring_kind ring_lives ring_audits disk call.by call.tape keys call.old call.new call.before (outside call.after.input written) t u records err) (stood : Stood disk keys r.p at past call.tape call.old) where
      abbrev p : Params
      p = r.p

      abbrev s : LifeState
      s = life_of p past

      abbrev asked : List (VaultCall × VaultAnswer)
      asked = calls r.serving.is_served.served.evidence.acts

      pub opened_at : IsOpenedAt ring_kind keys p at r.found (disk r.between)
      opened_at = r.stood at stood.tells.0 stood.is_at.stands

      pub left : IsLeftOnDisk ring_kind keys p call.by.shares r.found at r.script r.serving.records err r.serving.is_served.served.evidence.acts disk (disk r.between) (disk call.new)
      left = r.serving.left at (r.durable stood.tells.0).0 (r.durable stood.tells.0).1 opened_at

      tape_words : AreTapeWords past.word_of (ring_hidden r.found).generation call.tape.words
      tape_words = subst (λ g. AreTapeWords past.word_of g call.tape.words) r.serving.in_generation stood.words

      opened_in_life : IsOpenedInLife p past.word_of r.found s
      opened_in_life = r.opens_life stood.tells.0 past.word_of s stood.is_at.there stood.is_past.small

      abbrev in_life : IsRunInLife keys call.by.lanes p past.word_of s r.found (disk r.between) (answered asked) r.serving.traced.steps r.serving.traced.behind (refused asked) call.tape.words r.serving.traced.more (disk call.new)
      in_life = whole_run keys call.by.lanes p (disk call.old).cells r.found (disk r.between) (disk call.new) (answered asked) r.serving.traced.steps r.serving.traced.behind (refused asked) call.tape.words r.serving.traced.more
          (r.opens_life stood.tells.0) r.serving.goes_on past.word_of s stood.is_at.there stood.is_past.small tape_words

      module _ (w : IsRunInLife keys call.by.lanes p past.word_of s r.found (disk r.between) (answered asked) r.serving.traced.steps r.serving.traced.behind (refused asked) call.tape.words r.serving.traced.more (disk call.new)) where
        abbrev l : IsLeftInLife keys call.by.lanes p past.word_of (reached p past.word_of (reached p past.word_of s (opening_acts s)) w.goes.acts) r.serving.traced.behind (refused asked) call.tape.words r.serving.traced.more (disk call.new)
        l = w.goes.left at.content opened_at.content

        abbrev told : RunTold S
        told = record {
          script = r.script;
          found = r.found;
          start = r.start;
          opened = r.between;
          records = r.serving.records;
          next = left.next;
          err = err;
          events = r.serving.events;
          shown = w.goes.acts;
          cut = l.made;
          flying = l.in_flight;
        }

        abbrev made : List LifeAct
        made = opening_acts s ++ w.goes.acts

        life_made : IsLife p past.word_of s (made ++ l.made)
        life_made = life_goes_on p past.word_of s made l.made w.is_life (subst (λ (x : LifeState). IsLife p past.word_of x l.made) (sym w.leads) l.is_life)

        small_made : AreBatchesSmall (reached p past.word_of s (made ++ l.made)).log
        small_made = subst (λ (x : LifeState). AreBatchesSmall x.log) (sym (reached_join p past.word_of s made l.made ∙ ap (λ (x : LifeState). reached p past.word_of x l.made) w.leads)) l.small.0

        abbrev Next : Image → Type 0
        Next c = (found : List LifeAct) × Finds l.in_flight found × LeadsTo keys p (with_acts past (made ++ (l.made ++ found))) c

        -- where the next run may begin
        left_there : (c : Image) → (disk call.new).may_leave c → Next c
        left_there c may =
            let n : IsNextInLife keys p past.word_of s made l.made l.in_flight c = w.next at.content opened_at.content c may in
            let (now, stands, allowed) = left.now c (inl may) in
            (n.found, n.finds, subst (λ (m : List LifeAct). LeadsTo keys p (with_acts past (made ++ m)) c) n.begins (leads_on p past stood.is_past (made ++ n.more) n.is_life n.turn keys c now (ring_kind.generation r.found, stands) n.stands n.small))

        next_there : (c : Image) → IsImageOf (disk call.new) c → Next c
        next_there c (inl may) = left_there c may
        next_there c (inr (tells, same)) = subst Next (sym same) (left_there (disk call.new).cells (includes_reads call.new tells (goes.leaves.0 stood.tells.1)))

        listed : AreListed ring_kind keys (setup_with p call.by.shares) at (ring_kind.left p r.found) r.script.clients r.serving.is_served.served.evidence.acts
        listed = subst (λ n. AreListed ring_kind keys (setup_with p call.by.shares) (record { epoch = n; content = at.content }) (ring_kind.left p r.found) r.script.clients r.serving.is_served.served.evidence.acts) opened_at.epoch (r.serving.world at.content opened_at.content)

        all_told : err ≡ None → (client : ℕ) → TellAll client (txns_by client r.serving.records) (told_of (said_by client (history r.serving.is_served.served.evidence.acts)))
        all_told none client =
            let served = r.serving.is_served.served in
            let over : IsOver served.evidence.desk = subst (λ (e : Option RunErr). EndsWith e served.evidence.acts served.evidence.desk) none r.serving.is_served.ends in
            subst (λ (rs : List (EpochRecord ℕ)). TellAll client (txns_by client rs) (told_of (said_by client (history served.evidence.acts)))) (sym served.told_are)
            (records_tell.all (setup_with p call.by.shares) (suc (ring_kind.epoch r.found)) (ring_kind.left p r.found) r.script.clients (history served.evidence.acts) served.evidence.desk client r.serving.is_served.opens served.evidence.leads over.at_rest)

        pub headline : Output r.serving.records → Headline disk keys p at past call told
        headline output = record {
          came = (r.opened, opened_at);
          serial = r.serving.is_served.one_by_one at.content opened_at.content;
          scripts = (r.serving.is_served.served.first, r.serving.is_served.all);
          served = r.serving.is_served.served;
          world = listed;
          over = (r.serving.is_served.ends, all_told);
          output = output;
          opening = r.opening_left at stood.tells.0 stood.is_at.stands stood.sound;
          prefix = left.stages;
          next = (left.closed, next_of (ring_kind.is_map keys p (disk r.between) r.found) at.content (suc at.epoch + length r.serving.records) r.script r.serving.records left.next opened_at.content left.is_next);
          kept = left.now;
          seen = (r.opening_seen, r.serving.seen);
          trace = r.serving.traced;
          cause = cause_of r.between r.midway written r.faults r.opening_shown.faults p r.found (shapes asked) (end_point (length r.serving.records) r.serving.traced) err line r.serving.cause;
          filled = (r.serving.in_generation, opened_in_life, w.goes.shown, record { first = l.first; shown = l.shown });
          fresh = (past_on p past stood.is_past (made ++ l.made) life_made (w.turn_left at.content opened_at.content) small_made, fresh_on p past stood.is_past (made ++ l.made) life_made (w.turn_left at.content opened_at.content));
          pads = λ tells. (
            whole_lives disk keys call.old r.between call.new r.sealing r.serving.goes r.begun (map (λ s. s.1) asked) r.serving.traced.behind.seals r.serving.seals_on tells,
            whole_clear disk keys call.old r.between call.new r.sealing r.serving.goes r.begun err r.serving.clear tells,
          );
          again = (next_there, λ none. (r.serving.tells none (r.durable stood.tells.0).0, goes.leaves.0 stood.tells.1));
        }

      pub by_ran : Output records → (run : RunTold S) × Headline disk keys p at past call run
      by_ran output = (told in_life, headline in_life (subst Output (sym r.told) output))

    -- ---- where nothing was run

    module _ (only_now : (x : S) (c : Image) → (disk x).left_since (disk x).moment c → (disk x).may_leave c) (p : Params) (stood : Stood disk keys p at past call.tape call.old) where
      abbrev here : LifeState
      here = life_of p past

      stands_so : (c : Image) → Stands ring_kind keys p c at → ((disk call.old).cells ≡ c) → StandsAsBefore ring_kind keys p (disk call.old) c
      stands_so c (g, stands) same = record { at = at; generation = g; stands = stands; earlier = g; no_lower = omega arith; was = inl (subst (λ (i : Image). ring_kind.stands keys p g i at) (sym same) stands) }

      left_so : (c : Image) → (disk call.old).may_leave c → StandsAsBefore ring_kind keys p (disk call.old) c
      left_so c may =
          let (now, (g, stands)) = stood.sound c may in
          record { at = now; generation = g; stands = stands; earlier = g; no_lower = omega arith; was = inr (c, may, stands) }

      abbrev Told : Fault → Type 0
      Told f = (call.status ≡ fault_status f) × IsPrinted call.before.output call.after.output (fault_line (Some f)) × IsEarlyCause disk p past call f
          × ((disk call.new).tells → AreInClearBut (tagging keys) (disk call.new).seen (disk call.old).cells (disk call.new).cells)

      pub read_only : (f : Fault) → Told f → Passes Same (disk call.old) (disk call.new) → Unserved disk keys p past call
      read_only f said passes = record {
        fault = f;
        status_is = said.0;
        output = said.1;
        cause = said.2;
        clear = said.3;
        opening = leaves_of Same (StandsAsBefore ring_kind keys p (disk call.old)) (StandsAsBefore ring_kind keys p (disk call.old)) (disk call.old) (disk call.new) passes (only_now call.old) left_so (λ tells. stands_so (disk call.old).cells stood.is_at.stands refl)
            (λ c d was same. subst (StandsAsBefore ring_kind keys p (disk call.old)) (sym same) was) (λ c was. was);
        sound = λ c may.
            let (d, was, same) = passes.now c may in
            let (now, stands) = stood.sound d was in
            (now, subst (λ (i : Image). Stands ring_kind keys p i now) (sym same) stands);
        again = λ there c may.
            let (d, was, same) = passes.now c may in
            let (now, stands) = stood.sound d was in
            ([], opening_acts here, refl, subst (LeadsTo keys p (with_acts past [])) (sym same) (leads_on p past stood.is_past [] tt (λ k. tt) keys d now stands (there d was) stood.is_past.small));
      }

      module _ (sound : StandsOn ring_kind disk keys call.old call.new) where
        images : AllStand ring_kind keys p (disk call.new)
        images = (sound p stood.tells.0 (record { cells = λ tells. (at, stood.is_at.stands); images = stood.sound })).images

        one_p : (q : Params) → ((disk call.old).tells → ring_kind.is_head keys q ((disk call.old).cells 0)) → p ≡ q
        one_p q head =
            let (g, stands) = stood.is_at.stands in
            ring_keeps.one_head keys p q ((disk call.old).cells 0) (ring_keeps.has_head keys p g (disk call.old).cells at stands) (head stood.tells.0)

        pub early : (e : RunErr) → Told (fault_of e) → EndsEarly ring_kind ring_lives ring_audits call.by.head keys call.by.lanes call.by.shares (disk call.old) (disk call.new) t u disk call.old call.new call.before.input call.after.input e → Unserved disk keys p past call
        early (failed.Fault refusal) said (inl head) = read_only refusal said head.passes
        early (failed.Fault refusal) said (inr (inl input)) = read_only refusal said input.passes
        early (failed.Fault refusal) said (inr (inr o)) =
            let same : o.p ≡ p = sym (one_p o.p o.head) in
            record {
              fault = refusal;
              status_is = said.0;
              output = said.1;
              cause = said.2;
              clear = said.3;
              opening = subst (λ (q : Params). LeavesOnly (disk call.old) (disk call.new) (StandsAsBefore ring_kind keys q (disk call.old))) same
                  (o.left at stood.tells.0 (subst (λ (q : Params). Stands ring_kind keys q (disk call.old).cells at) (sym same) stood.is_at.stands) (subst (λ (q : Params). AllStand ring_kind keys q (disk call.old)) (sym same) stood.sound));
              sound = images;
              again = λ there c may.
                  let stops = subst (λ (q : Params). ring_lives.stops keys q (disk call.old) (disk call.new)) same (o.stops_life stood.tells.0) in
                  let stopped = stops past.word_of here None (idle_at keys p past.word_of here (disk call.old).cells stood.is_at.there) (λ d left. idle_at keys p past.word_of here d (there d left)) in
                  let (first, rest, is, life, turn, stands, small) = stopped_next keys p past.word_of here (disk call.new) stood.is_past.small stopped c may in
                  let (now, allowed) = images c may in
                  (first, rest, is, leads_on p past stood.is_past first life turn keys c now allowed stands small);
            }
        early failed.Unwatched said (inl head) = read_only SinkFault said head.passes
        early failed.Unwatched said (inr o) =
            let same : o.p ≡ p = sym (one_p o.p o.opened.head) in
            let stands = subst (λ (q : Params). Stands ring_kind keys q (disk call.old).cells at) (sym same) stood.is_at.stands in
            record {
              fault = SinkFault;
              status_is = said.0;
              output = said.1;
              cause = said.2;
              clear = said.3;
              opening = subst (λ (q : Params). LeavesOnly (disk call.old) (disk call.new) (StandsAsBefore ring_kind keys q (disk call.old))) same (o.left at stood.tells.0 stands (subst (λ (q : Params). AllStand ring_kind keys q (disk call.old)) (sym same) stood.sound));
              sound = images;
              again = λ there c may.
                  let opened = subst (λ (q : Params). IsOpenedAt ring_kind keys q at o.found (disk call.new)) same (o.stood at stood.tells.0 stands) in
                  let begun = subst (λ (q : Params). ring_lives.begins keys q (disk call.old).cells o.found) same (o.opens_life stood.tells.0) past.word_of here stood.is_at.there stood.is_past.small in
                  let (now, allowed) = images c may in (
                    opening_acts here,
                    [],
                    sym (append-nil (opening_acts here)),
                    leads_on p past stood.is_past (opening_acts here) begun.is_life (opened_turn keys p past.word_of here o.found (disk call.new) begun at.content opened.content) keys c now allowed
                        (opened_there keys p past.word_of here o.found (disk call.new) begun at.content opened.content c may) begun.then.small,
                  );
            }

    -- ---- both

    module _ (only_now : (x : S) (c : Image) → (disk x).left_since (disk x).moment c → (disk x).may_leave c)
        (records : List (EpochRecord ℕ)) (output : Output records) (sound : StandsOn ring_kind disk keys call.old call.new) (p : Params) (stood : Stood disk keys p at past call.tape call.old) where
      by_run : Ran ring_kind ring_lives ring_audits disk call.by call.tape keys call.old call.new call.before (outside call.after.input written) t u records err → Promised disk keys p at past call
      by_run r =
          let same : r.p ≡ p = sym (one_p only_now p stood sound r.p r.opened.head) in
          subst (λ (q : Params). Stood disk keys q at past call.tape call.old → Promised disk keys q at past call) same (λ so. inl (by_ran records r so output)) stood

  module _ (only_now : (x : S) (c : Image) → (disk x).left_since (disk x).moment c → (disk x).may_leave c) (includes_reads : (x : S) → (disk x).tells → (disk x).leaves → (disk x).may_leave (disk x).cells) (goes : GoesOn (disk call.old) (disk call.new))
      (p : Params) (at : Standing) (past : PastLife) (stood : Stood disk keys p at past call.tape call.old) (whole : t.broken ≡ false) where
    by_went : (records : List (EpochRecord ℕ)) (err : Option RunErr) (written : Flow) (line : ErrTold written call.after.output err) → Output includes_reads goes at past err written line records → StandsOn ring_kind disk keys call.old call.new
        → ((disk call.new).tells → IsInClearBehind keys (disk call.old) (disk call.new) err) → Went ring_kind ring_lives ring_audits disk call.by call.tape keys call.old call.new call.before (outside call.after.input written) t u records err → Promised disk keys p at past call
    by_went records None written line output sound clear ran = by_run includes_reads goes at past None written line only_now records output sound p stood ran
    by_went records (Some err) written line output sound clear (inr ran) = by_run includes_reads goes at past (Some err) written line only_now records output sound p stood ran
    by_went records (Some err) written line output sound clear (inl (none, ended, lives)) =
        let said = subst (λ (rs : List (EpochRecord ℕ)). IsPrinted call.before.output call.after.output (report decimal rs ++ fault_line (Some (fault_of err)))) none output.1 in
        inr (early includes_reads goes at past (Some err) written line only_now p stood sound err (output.0, said, early_cause disk keys p at past call stood t u whole traced err ended, clear) ended)

    pub done_promised : RunDone ring_kind ring_lives ring_audits disk call.by call.tape keys call.old call.new call.before call.after t u call.status → Promised disk keys p at past call
    done_promised d = by_went d.records d.err d.written d.line (d.status_is, d.output_is, d.all_written) d.sound d.clear d.went

    -- nothing was done, and this told
    pub none_promised : (f : Fault) → IsOnlyTold f call.before call.after call.status → IsEarlyCause disk p past call f → call.new ≡ call.old → Promised disk keys p at past call
    none_promised f told cause same =
        inr (read_only includes_reads goes at past None call.after.output refl only_now p stood f (told.status_is, told.printed, cause, λ tells cell low. inl (inl (ap (λ (x : S). (disk x).cells cell) same)))
        (subst (λ (x : S). Passes Same (disk call.old) (disk x)) (sym same) (same_none (disk call.old))))

-- ---- by the words

module _ {S W : Type 0} (disk : S → Disk) (flow : W → Flow) (beat : BeatKind) (tape : Given) (text : Option (Bor (List ℕ))) (old new : S) (was is : Option W) (before after : Outside) (status : ℕ)
    (only_now : (x : S) (c : Image) → (disk x).left_since (disk x).moment c → (disk x).may_leave c) (includes_reads : (x : S) → (disk x).tells → (disk x).leaves → (disk x).may_leave (disk x).cells) (goes : GoesOn (disk old) (disk new)) where
  abbrev pub called : Bool → Option (List ℕ) → ℕ → Shares → RunCall S
  called turns trace k shares = record { old = old; new = new; before = before; after = after; lacks_trace = is_lacking trace was; traced_before = faults_of flow was; traced_after = faults_of flow is; by = manner beat (not turns) k shares; tape = tape; status = status }

  module _ (turns : Bool) (k : ℕ) (shares : Shares) (keys : Keys) (p : Params) (at : Standing) (past : PastLife) (stood : Stood disk keys p at past tape old) where
    abbrev Keeps : Option (List ℕ) → Type 0
    Keeps trace = Promised disk keys p at past (called turns trace k shares)

    -- what rose for the watch rose for its sink
    sink_rose : (first : List ℕ) (t u : Trace) → HasTrace flow first was is t u → Rose t.faults u.faults → Rose (faults_of flow was) (faults_of flow is)
    sink_rose first t u has rose =
        subst (λ (x : Option W). Rose (faults_of flow x) (faults_of flow is)) (sym has.was_is) (subst (λ (x : Option W). Rose (flow has.before).faults (faults_of flow x)) (sym has.is_is)
        (subst (λ n. Rose (flow has.before).faults n) (sym has.told.1) (subst (λ n. Rose n u.faults) (sym has.tells.1) (rose_later has.start.faults t.faults u.faults has.line.faults rose))))

    -- so it did where the first line broke it
    first_broke : (t u : Trace) → HasTrace flow (open_line false) was is t u → t.broken ≡ true → u ≡ t → Rose (faults_of flow was) (faults_of flow is)
    first_broke t u has broken still =
        subst (λ (x : Option W). Rose (faults_of flow x) (faults_of flow is)) (sym has.was_is) (subst (λ (x : Option W). Rose (flow has.before).faults (faults_of flow x)) (sym has.is_is)
        (subst (λ n. Rose (flow has.before).faults n) (sym has.told.1) (subst (λ n. Rose n u.faults) (sym has.tells.1) (subst (λ (x : Trace). Rose has.start.faults x.faults) (sym still) (rose_added (open_line false) has.start t has.line has.whole broken)))))

    abbrev Done : Trace → Trace → Type 0
    Done t u = RunDone ring_kind ring_lives ring_audits disk (manner beat (not turns) k shares) tape keys old new before after t u status

    by_trace : (trace : Option (List ℕ)) → ByTrace flow was is before after status trace (open_line false) Done old new → Keeps trace
    by_trace None (kept, done) = done_promised disk keys (called turns None k shares) blind blind (λ rose. absurd (no_rise rose)) only_now includes_reads goes p at past stood refl done
    by_trace (Some file) (inl (none, kept, same, line)) =
        none_promised disk keys (called turns (Some file) k shares) blind blind (λ rose. absurd (no_rise rose)) only_now includes_reads goes p at past stood refl SinkFault line (inl (subst (λ (x : Option W). is_lacking (Some file) x ≡ true) (sym none) refl)) same
    by_trace (Some file) (inr (t, u, has, inl (broken, still, same, line))) = none_promised disk keys (called turns (Some file) k shares) blind blind (λ rose. absurd (no_rise rose)) only_now includes_reads goes p at past stood refl SinkFault line (inr (first_broke t u has broken still)) same
    by_trace (Some file) (inr (t, u, has, inr (whole, done))) = done_promised disk keys (called turns (Some file) k shares) t u (sink_rose (open_line false) t u has) only_now includes_reads goes p at past stood whole done

    pub told_promised : (lanes trace : Option (List ℕ)) (limits : AskedShares) → AreLanes lanes k → AreShares limits shares → HasKeys text keys → RunTells disk flow beat tape [] text old new was is before after status lanes turns trace limits → Keeps trace
    told_promised lanes trace limits are given has (inl (kept, line)) = none_promised disk keys (called turns trace k shares) blind blind (λ rose. absurd (no_rise rose)) only_now includes_reads goes p at past stood refl Memory line tt kept.0
    told_promised lanes trace limits are given has (inr (inl (bad, line))) = absurd (no_bad_lanes lanes k are bad)
    told_promised lanes trace limits are given has (inr (inr (m, these, those, limited, inl (f, refusal, line)))) = absurd (keys_stand text keys f has refusal)
    told_promised lanes trace limits are given has (inr (inr (m, these, those, limited, inr (own, holds, by)))) =
        by_trace trace (subst (λ (x : Keys). ByTrace flow was is before after status trace (open_line false) (λ t u. RunDone ring_kind ring_lives ring_audits disk (manner beat (not turns) k shares) tape x old new before after t u status) old new) (one_keys text own keys holds has)
        (subst (λ n. ByTrace flow was is before after status trace (open_line false) (λ t u. RunDone ring_kind ring_lives ring_audits disk (manner beat (not turns) n shares) tape own old new before after t u status) old new) (one_lanes lanes m k these are)
        (subst (λ (x : Shares). ByTrace flow was is before after status trace (open_line false) (λ t u. RunDone ring_kind ring_lives ring_audits disk (manner beat (not turns) m x) tape own old new before after t u status) old new) (one_shares limits those shares limited given) by)))
