-- What a self-test comes to, over any vault: its script was served by threads from a map without keys on, and the map was read behind that.
use Rattle.std.specs.List.{All}
use Rattle.std.proofs.Common.{◌≡◌, ◌∙◌, ◌==◌, ◌+◌, ◌<◌, ◌≤◌, ◌^◌, ℕ, suc, true, false, List, [], ◌∷◌, ◌++◌, length, length-append, map, get_or, Option, None, Result, Ok, refl, sym, ap, subst, arith, nat_cmp, inl, inr, Err, ⊎_elim, ◌&&◌, Bool, nat_lt, eqb-true}
use Rattle.std.specs.FinMap as finite
use Rattle.std.proofs.lemmas.List.Elements.{All-map, All-weaker}
use Rattle.std.proofs.lemmas.List.FromFn.{length-map-range_with_len}
use Rattle.ob_base.specs.declared.params.Params.{Params}
use Rattle.ob_base.specs.declared.fault.Fault.{Fault}
use Rattle.ob_base.specs.declared.fault.Fault.TheVariants as fault
use Rattle.ob_base.specs.Causes.{Rose}
use Rattle.ob_base.specs.Tree.{below}
use Rattle.ob_opening.specs.Formats.{IsFormatFault, formatted_standing}
use Rattle.ob_opening.specs.declared.opening.Opening.{Opening}
use Rattle.ob_seal.specs.declared.keys.Keys.{Keys}
use Rattle.ob_vault.specs.RingKind.{IsRingMap, RingFound, ring_kind}
use Rattle.ob_opening.specs.Openings.{IsOpeningOf, IsStandingRefusal}
use Rattle.ob_recover.proofs.Dealing.{made_as}
use Rattle.ob_recover.specs.Telling.{ArePhasesMade}
use Rattle.ob_recover.specs.declared.found.Found.{Found}
use Rattle.ob_seal.specs.Sealing.{Sealing}
use Rattle.ob_vault.specs.RingLaws.{found_ring}
use Rattle.ob_vault.specs.Seen.{opening_phases}
use Rattle.ob_store.specs.Calls.{GoesOn, IsStoreFault}
use Rattle.ob_store.proofs.Serving.{goes_same, goes_then, rose_later}
use Rattle.ob_store.specs.Disk.{Disk}
use Rattle.ob_store.specs.Lines.{Trace}
use Rattle.ob_start.specs.Heads.{numbers_of}
use Rattle.ob_serial.specs.Serial.{EpochRecord, Map, TxnRecord, committed_of, is_committed}
use Rattle.ob_serial.specs.declared.records.Outcome.{Outcome}
use Rattle.ob_serial.specs.declared.records.Outcome.TheVariants.{Committed}
use Rattle.std.specs.Prelude.{filter}
use Rattle.ob_desk.proofs.Runs.{committed_append}
use Rattle.ob_serial.specs.Vaults.{VaultCall, Fetch, End, VaultAnswer, Values, Ended, RefusedBy, DoubtBy, VaultCounts, VaultState, counts_of, vault_next}
use Rattle.ob_serial.specs.VaultKinds.{AllCalled, Kind, after_calls, ended_of}
use Rattle.ob_script.specs.Drill.{counter, drill_script, drill_txn, key_added, key_read}
use Rattle.ob_script.specs.Script.{ScriptTxn, Scripts, asks_by}
use Rattle.ob_script.proofs.Drills.{drill_sound}
use Rattle.ob_runner.specs.RunnerViews.{plan_of, client_of}
use Rattle.ob_runner.specs.Runners.{AreRunners, IsNewOf}
use Rattle.ob_runner.specs.declared.runner.ScriptRunner.{ScriptRunner}
use Rattle.ob_desk.specs.Beats.{BeatKind, beat_kind}
use Rattle.ob_shares.specs.Shares.{no_shares}
use Rattle.ob_shares.proofs.Fitting.{none_fit}
use Rattle.ob_desk.specs.Desk.{DeskState, MayOpen, Run, new_desk, setup_of}
use Rattle.ob_conduct.specs.Acts.{Act, calls, fault_of, history, records}
use Rattle.ob_conduct.specs.declared.run_err.RunErr.{RunErr}
use Rattle.ob_conduct.specs.Records.{AreAnswered, AreWritten, HoldsMap, contents}
use Rattle.ob_conduct.specs.Scenes.{run_state, scene}
use Rattle.ob_conduct.proofs.Moving.{called}
use Rattle.ob_run.specs.Threaded.{AreShaped, RunsBy}
use Rattle.ob_run.proofs.Shapes.{runs_shaped}
use Rattle.ob_outcomes.specs.Lone.{AsksFew, HasOneCommitted}
use Rattle.ob_outcomes.specs.Served.{IsPatient}
use Rattle.ob_outcomes.specs.Sums.{CountsAll, IsAdder, adds_to, count_value}
use Rattle.ob_outcomes.proofs.Adders.{adds_are_counted}
use Rattle.ob_outcomes.proofs.Counting.{few_epochs, few_txns}
use Rattle.ob_outcomes.proofs.LoneServed.{served_counts}
use Rattle.ob_outcomes.proofs.Whole.{all_served, is_served, its_acts, its_desk}
use Rattle.ob_drill.specs.declared.map.MapDigest.{MapDigest}
use Rattle.ob_drill.specs.Reading.{AllShown, ReadingFails, ReadsOnly}
use Rattle.ob_drill.specs.Rows.{IsDigestOf, digest_of, rows_below}
use Rattle.ob_io.specs.Streams.{Flow}
use Rattle.ob_report.specs.Printed.{Prints}
use Rattle.ob_report.specs.Summaries.{summary_text}
use Rattle.ob_report.specs.declared.summary.Summary.{Summary}
use Rattle.ob_top.specs.Drilling.{WasRun, IsOpenedEmpty, IsWant, script_runners, no_output}
use Rattle.ob_top.specs.Outside.{blind}
use Rattle.ob_top.specs.Runs.{ScriptServed}
use Rattle.ob_top.specs.Parts.{manner}
use Rattle.ob_top.specs.SelfTests.{AllCommitted}
use Rattle.ob_top.specs.Drills.{counted_value, drill_digest, drill_numbers, drill_summary}
use Rattle.ob_top.proofs.Lent.{runs_scripts}
use Rattle.ob_top.proofs.Opens.{may_open}
use Rattle.ob_top.proofs.Serving.{counted_ends}

-- ---- the opening

pub all_left : (left batches : ℕ) → left + 0 ≡ batches → left ≡ batches
all_left left batches is = omega (arith, is)

-- its phases are those of its kind
pub opens_seen : {L : Type 0} (keys : Keys) (p : Params) (found : Found) (o : Opening L) → IsOpeningOf keys p found o → (old new : Disk)
    → ArePhasesMade 4 (opening_phases p (found_ring found o).content (found_ring found o).records found.epoch (suc found.generation) found.gates) old.seen new.seen → ArePhasesMade 4 (ring_kind.opens p (found_ring found o) found.gates) old.seen new.seen
opens_seen keys p found o is old new seen =
    let f = found_ring found o in
    made_as 4 (opening_phases p f.content f.records found.epoch (suc found.generation) found.gates) (ring_kind.opens p f found.gates) old.seen new.seen
    (ap (λ e. opening_phases p f.content f.records e (suc found.generation) found.gates) (sym is.epoch) ∙ ap (λ g. opening_phases p f.content f.records o.epoch g found.gates) (sym (ap (λ (x : Sealing). x.generation) is.sealer))) seen

pub ready_as : {L : Type 0} (keys : Keys) (p q : Params) (new : Disk) (f : RingFound) (o : Opening L) → p ≡ q → IsOpenedEmpty keys p new f o → IsOpenedEmpty keys q new f o
ready_as keys p q new f o same is = subst (λ (x : Params). IsOpenedEmpty keys x new f o) same is

-- what was formatted is opened, but for want of memory or for its store
pub want_of : (p : Params) (words : List ℕ) (refused : Fault) (old new : Disk) → IsStandingRefusal (formatted_standing p words) refused → (IsStoreFault refused → Rose old.faults new.faults) → IsWant old new refused
want_of p words fault.Memory old new is cause = inl refl
want_of p words (fault.StoreFault unsure) old new is cause = inr (tt, cause tt)
want_of p words (fault.Worn number) old new is cause = let last : 2 ≡ 2 ^ 62 = is in absurd (omega (arith, last))
want_of p words fault.Usage old new is cause = absurd is
want_of p words (fault.BadScript line) old new is cause = absurd is
want_of p words (fault.BadParams field) old new is cause = absurd is
want_of p words fault.NotStore old new is cause = absurd is
want_of p words (fault.Damaged cell check kept computed) old new is cause = absurd is
want_of p words (fault.StashFull rows) old new is cause = absurd is
want_of p words fault.SourceFault old new is cause = absurd is
want_of p words fault.SinkFault old new is cause = absurd is

-- and so is a format
pub format_want : (refused : Fault) (old new : Disk) → IsFormatFault refused → (IsStoreFault refused → Rose old.faults new.faults) → IsWant old new refused
format_want fault.Memory old new is cause = inl refl
format_want (fault.StoreFault unsure) old new is cause = inr (tt, cause tt)
format_want (fault.Worn number) old new is cause = absurd is
format_want fault.Usage old new is cause = absurd is
format_want (fault.BadScript line) old new is cause = absurd is
format_want (fault.BadParams field) old new is cause = absurd is
format_want fault.NotStore old new is cause = absurd is
format_want (fault.Damaged cell check kept computed) old new is cause = absurd is
format_want (fault.StashFull rows) old new is cause = absurd is
format_want fault.SourceFault old new is cause = absurd is
format_want fault.SinkFault old new is cause = absurd is

pub later_want : (old mid new : Disk) (refused : Fault) → old.faults ≤ mid.faults → IsWant mid new refused → IsWant old new refused
later_want old mid new refused further (inl memory) = inl memory
later_want old mid new refused further (inr (store, rose)) = inr (store, rose_later old.faults mid.faults new.faults further rose)

-- ---- the beat

and_right : (a b : Bool) → (a && b) ≡ true → b ≡ true
and_right true b both = both
and_right false b both = absurd (let wrong : false ≡ true = both in cc)

-- the beat that acts where all wait is patient
pub eager_patient : (exact : Bool) → IsPatient (beat_kind (λ waiting live queued left. nat_lt 0 live && (waiting == live)) exact)
eager_patient exact waiting live queued left passes = eqb-true waiting live (and_right (nat_lt 0 live) (waiting == live) passes)

-- ---- the script

abbrev txn_of : ℕ → ScriptTxn
txn_of i = drill_txn (key_read i) (key_added i)

pub adders : (n : ℕ) → All IsAdder (drill_script n).txns
adders n = All-map IsAdder txn_of (below n) (λ k d lt. record { read = key_read (get_or (below n) k d); added = key_added (get_or (below n) k d); asks_are = refl; ending_is = refl })

pub all_its_own : (n : ℕ) → All (λ t. t.client ≡ 1) (drill_script n).txns
all_its_own n = All-map (λ t. t.client ≡ 1) txn_of (below n) (λ k d lt. refl)

pub ask_few : (n left : ℕ) (p : Params) → 2 < left → 1 < p.writes → All (AsksFew left p) (drill_script n).txns
ask_few n left p gets writes = All-map (AsksFew left p) txn_of (below n) (λ k d lt. record { gets = gets; writes = writes })

pub its_length : (n : ℕ) → length (drill_script n).txns ≡ n
its_length n = length-map-range_with_len txn_of 0 n

-- what its adds come to
pub adds_counted : (n key : ℕ) → adds_to key (drill_script n).txns ≡ counter n key
adds_counted n key = adds_are_counted key_read key_added txn_of (below n) key (λ i. refl)

-- ---- the vault behind calls that were answered

pub holds_behind : {V : Type 0} (k : Kind V) (first : V) (steps : List (VaultCall × VaultAnswer)) (last : V) (v : VaultState) → AllCalled k first steps last → k.holds first v → k.holds last (after_calls v steps)
holds_behind k first [] last v same held = subst (λ x. k.holds x v) (sym same) held
holds_behind k first (step ∷ steps) last v (mid, one, rest) held = holds_behind k mid steps last _ rest (one.holds v held)

pub epochs_behind : (steps : List (VaultCall × VaultAnswer)) (v : VaultState) → AreAnswered steps → ((after_calls v steps).epoch ≡ v.epoch + length (ended_of steps)) × ((after_calls v steps).spent ≡ v.spent)
epochs_behind [] v all = (none_more v.epoch, refl)
  where
    none_more : (n : ℕ) → n ≡ n + 0
    none_more n = omega arith
epochs_behind ((Fetch keys, Values values) ∷ steps) v all = epochs_behind steps (vault_next v (Fetch keys) (Values values)) all
epochs_behind ((End writes, Ended) ∷ steps) v all =
    let (epochs, spent) = epochs_behind steps (vault_next v (End writes) Ended) all in
    (epochs ∙ one_more v.epoch (length (ended_of steps)), spent)
  where
    one_more : (i j : ℕ) → suc i + j ≡ i + suc j
    one_more i j = omega arith
epochs_behind ((Fetch keys, Ended) ∷ steps) v all = absurd all
epochs_behind ((Fetch keys, RefusedBy fault) ∷ steps) v all = absurd all
epochs_behind ((Fetch keys, DoubtBy fault) ∷ steps) v all = absurd all
epochs_behind ((End writes, Values values) ∷ steps) v all = absurd all
epochs_behind ((End writes, RefusedBy fault) ∷ steps) v all = absurd all
epochs_behind ((End writes, DoubtBy fault) ∷ steps) v all = absurd all

-- ---- the map

pub same_digest : (f g : ℕ → Option (List ℕ)) (bound : ℕ) → ((key : ℕ) → f key ≡ g key) → digest_of (rows_below f bound) ≡ digest_of (rows_below g bound)
same_digest f g bound same = ap (λ (h : ℕ → Option (List ℕ)). digest_of (rows_below h bound)) (λ i key. same key i)

pub its_summary : (n epochs : ℕ) (digest : MapDigest) → epochs ≡ n → digest ≡ drill_digest n → ◌≡◌ {A = Summary} (record { count = n; epochs = epochs; committed = n; keys = digest.keys; map = digest.map }) (drill_summary n)
its_summary n epochs digest ended is = λ i. record { count = n; epochs = ended i; committed = n; keys = (is i).keys; map = (is i).map }

pub prints_as : {T E : Type 0} (s t : Summary) (before after : Flow) (r : Result T E) → s ≡ t → Prints (summary_text s) before after r → Prints (summary_text t) before after r
prints_as s t before after r same prints = subst (λ (x : Summary). Prints (summary_text x) before after r) same prints

module _ (p : Params) (numbers : numbers_of p ≡ drill_numbers) where
  pub keys_are : p.keys ≡ 256
  keys_are = ap (λ (l : List ℕ). get_or l 0 0) numbers

  pub batches_are : p.batches ≡ 4
  batches_are = ap (λ (l : List ℕ). get_or l 4 0) numbers

  pub writes_are : p.writes ≡ 8
  writes_are = ap (λ (l : List ℕ). get_or l 6 0) numbers

module _ {V : Type 0} (k : Kind V) (p : Params) (numbers : numbers_of p ≡ drill_numbers) (n : ℕ) (few : n ≤ 10000) (beat : BeatKind) (first : V) (trace : Trace) (epoch left : ℕ) (small : epoch < 2 ^ 62) (left_is : left ≡ p.batches)
    (runners : List ScriptRunner) (are : AreRunners (drill_script n) runners) (v : VaultState) (held : k.holds first v) (none : v.content ≡ finite.empty) where
  abbrev script : Scripts
  script = drill_script n

  pub may : MayOpen (setup_of p) (suc epoch) left script.clients
  may = may_open p no_shares epoch left script small (omega (arith, left_is)) (drill_sound n) (none_fit (length script.clients) p.places p.writes)

  abbrev base : DeskState
  base = new_desk (setup_of p) (suc epoch) left script.clients

  planned : All (λ u. plan_of u ≡ asks_by (client_of u) script.txns) runners
  planned = All-weaker (IsNewOf script) (λ r. plan_of r ≡ asks_by (client_of r) script.txns) (λ r new. new.plan) runners are.new

  module _ (desk : DeskState) (mid : V) (at : Trace) (ran : List ScriptRunner) (run : RunsBy true k script_runners beat (run_state (scene base first trace) runners no_output) (run_state (scene desk mid at) ran no_output) (Ok tt)) where
    -- how it went
    pub record Went : Type 0 where
      pub acts : List Act
      pub chain : AllCalled k first (calls acts) mid
      pub answered : AreAnswered (calls acts)
      pub wrote : AreWritten (ended_of (calls acts)) (records acts)
      pub not_more : length (records acts) ≤ n
      pub holds : HoldsMap k mid (contents finite.empty (records acts))
      pub counts : IsPatient beat → CountsAll finite.empty script.txns (records acts)

    pub went : Went
    went =
        let (acts, d, shaped) = runs_shaped true k script_runners beat _ _ (Ok tt) run in
        let (answered, over, written, still) = d.ends in
        let begun : HoldsMap k first finite.empty = (v, held, none) in
        let served = is_served k beat script_runners runs_scripts (setup_of p) epoch left script (drill_sound n) may first trace runners no_output _ acts (Ok tt) are.clients_are planned d (AreShaped true (map client_of runners)) (λ m. ⊥) shaped (λ m none. absurd none) in
        let same = sym (its_acts k beat script_runners runs_scripts (setup_of p) epoch left script (drill_sound n) may first trace runners no_output _ acts (Ok tt) are.clients_are planned d (AreShaped true (map client_of runners)) (λ m. ⊥) shaped (λ m none. absurd none)) in
        let same_desk = sym (its_desk k beat script_runners runs_scripts (setup_of p) epoch left script (drill_sound n) may first trace runners no_output _ acts (Ok tt) are.clients_are planned d (AreShaped true (map client_of runners)) (λ m. ⊥) shaped (λ m none. absurd none)) in
        let last = contents finite.empty (records acts) in
        let fed = subst (λ (x : DeskState). Run finite.empty base (history served.evidence.acts) last x) same_desk (subst (λ (xs : List Act). Run finite.empty base (history xs) last desk) same (d.serial finite.empty begun).0) in
        record {
          acts = acts;
          chain = called k first trace (calls acts) d.notes mid at d.chain;
          answered = answered;
          wrote = d.wrote;
          not_more = let epochs = few_epochs (records acts) served.some in let txns = few_txns script.txns (records acts) served.first in let many = its_length n in omega (arith, epochs, txns, many);
          holds = (d.serial finite.empty begun).1;
          counts = λ patient.
              (served_counts (AreShaped true (map client_of runners)) (λ m. ⊥) beat p epoch left 1 script (records acts) finite.empty last served refl patient may fed
              (adders n) (all_its_own n) (ask_few n left p (omega (arith, left_is, batches_are p numbers)) (omega (arith, writes_are p numbers))) (let many = its_length n in omega (arith, many, few)) (λ key. finite.get-empty nat_cmp key)).1
              (all_served k beat script_runners runs_scripts (setup_of p) epoch left script (drill_sound n) may first trace runners no_output _ acts (Ok tt) are.clients_are planned d over);
        }

-- the same of a run over a vault that tells of itself what it holds
module _ {V : Type 0} (k : Kind V) (counts : V → VaultCounts) (agrees : (x : V) (u : VaultState) → k.holds x u → counts_of u ≡ counts x) (p : Params) (numbers : numbers_of p ≡ drill_numbers) (n : ℕ) (few : n ≤ 10000) (beat : BeatKind) (script : Scripts) (script_is : script ≡ drill_script n)
    (first : V) (begins : (counts first).epoch ≡ 0) (left : (counts first).left ≡ p.batches) (runners : List ScriptRunner) (are : AreRunners script runners) (v : VaultState) (held : k.holds first v) (none : v.content ≡ finite.empty)
    (mid : V) (run : WasRun k counts beat p script runners first mid (Ok tt)) where
  abbrev runs_it : WasRun k counts beat p (drill_script n) runners first mid (Ok tt)
  runs_it = subst (λ (s : Scripts). WasRun k counts beat p s runners first mid (Ok tt)) script_is run

  pub its : Went k p numbers n few beat first blind (counts first).epoch (counts first).left (omega (arith, begins)) left runners (subst (λ (s : Scripts). AreRunners s runners) script_is are) v held none runs_it.desk mid blind runs_it.ran runs_it.by
  its = went k p numbers n few beat first blind (counts first).epoch (counts first).left (omega (arith, begins)) left runners (subst (λ (s : Scripts). AreRunners s runners) script_is are) v held none runs_it.desk mid blind runs_it.ran runs_it.by

  held_now : k.holds mid (after_calls v (calls its.acts))
  held_now = holds_behind k first (calls its.acts) mid v its.chain held

  -- it serves on
  pub still_serves : v.spent ≡ false → (counts mid).spent ≡ false
  still_serves serves = ap (λ (x : VaultCounts). x.spent) (sym (agrees mid _ held_now)) ∙ (epochs_behind (calls its.acts) v its.answered).1 ∙ serves

  -- as many epochs ended as there are transactions
  pub epochs_counted : IsPatient beat → (counts mid).epoch ≡ n
  epochs_counted patient =
      ap (λ (x : VaultCounts). x.epoch) (sym (agrees mid _ held_now)) ∙ (epochs_behind (calls its.acts) v its.answered).0
      ∙ ap (λ m. m + length (ended_of (calls its.acts))) (ap (λ (x : VaultCounts). x.epoch) (agrees first v held) ∙ begins) ∙ none_before (length (ended_of (calls its.acts)))
      ∙ counted_ends (ended_of (calls its.acts)) (records its.acts) its.wrote ∙ (its.counts patient).epochs ∙ its_length n
    where
      none_before : (m : ℕ) → 0 + m ≡ m
      none_before m = omega arith

  -- and the map has what they come to
  pub digest_counted : IsPatient beat → (digest : MapDigest) → ((u : VaultState) → k.holds mid u → IsDigestOf u.content p.keys digest) → digest ≡ drill_digest n
  digest_counted patient digest read =
      let (u, holds, is) = its.holds in
      read u holds
      ∙ ap (λ (m : Map nat_cmp). digest_of (rows_below (finite.get m) p.keys)) is
      ∙ ap (λ bound. digest_of (rows_below (finite.get (contents finite.empty (records its.acts))) bound)) (keys_are p numbers)
      ∙ same_digest (finite.get (contents finite.empty (records its.acts))) (counted_value n) 256 (λ key. (its.counts patient).counts key ∙ ap count_value (adds_counted n key))

-- ---- what its records tell

kept_one : {X : Type 0} (test : X → Bool) (x : X) → test x ≡ true → length (filter test (x ∷ [])) ≡ 1
kept_one test x passes = rw passes refl

one_kept : (ts : List (TxnRecord ℕ)) → length ts ≡ 1 → All (λ t. t.outcome ≡ Committed) ts → length (filter (λ t. is_committed t) (ts ++ [])) ≡ 1
one_kept [] one all = absurd (omega (arith, one))
one_kept (t ∷ []) one all = kept_one (λ t. is_committed t) t (ap (λ (o : Outcome ℕ). is_committed (record t { outcome = o })) (all 0 t (omega arith)))
one_kept (t ∷ u ∷ ts) one all = absurd (omega (arith, one))

one_more : (r : EpochRecord ℕ) (records : List (EpochRecord ℕ)) → HasOneCommitted r → length (committed_of (r ∷ records)) ≡ suc (length (committed_of records))
one_more r records one =
    let first = one_kept r.txns one.one one.committed in
    ap (λ (l : List (TxnRecord ℕ)). length l) (committed_append (r ∷ []) records) ∙ length-append (committed_of (r ∷ [])) (committed_of records) ∙ ap (λ m. m + length (committed_of records)) first ∙ one_and (length (committed_of records))
  where
    one_and : (m : ℕ) → 1 + m ≡ suc m
    one_and m = omega arith

all_kept : (records : List (EpochRecord ℕ)) → All HasOneCommitted records → length (committed_of records) ≡ length records
all_kept [] all = refl
all_kept (r ∷ records) all = one_more r records (all 0 r (omega arith)) ∙ ap suc (all_kept records (λ i d lt. all (suc i) d (omega (arith, lt))))

-- each transaction of the script is committed, where it was served from an empty map on
pub all_committed : (p : Params) → numbers_of p ≡ drill_numbers → (n : ℕ) → n ≤ 10000 → (beat : BeatKind) (keys : Keys) (opened : Disk) (f : RingFound) → (f.run).left ≡ p.batches → IsRingMap keys p opened f finite.empty → (records : List (EpochRecord ℕ))
    → ScriptServed ring_kind (manner beat true 4 no_shares) keys p opened f (drill_script n) records None → IsPatient beat → AllCommitted n records
all_committed p numbers n few beat keys opened f left is_map records s patient =
    let script = drill_script n in
    let counted = served_counts (AreShaped true script.clients) (ring_kind.is_map keys p opened f) beat p (f.run).epoch (f.run).left 1 script records finite.empty (contents finite.empty records) s.served refl patient s.opens (subst (λ (rs : List (EpochRecord ℕ)). Run finite.empty (new_desk (setup_of p) (suc (f.run).epoch) (f.run).left script.clients) (history s.served.evidence.acts) (contents finite.empty rs) s.served.evidence.desk) (sym s.served.told_are) (s.served.evidence.fed finite.empty is_map))
    (adders n) (all_its_own n) (ask_few n (f.run).left p (omega (arith, left, batches_are p numbers)) (omega (arith, writes_are p numbers))) (let many = its_length n in omega (arith, many, few)) (λ key. finite.get-empty nat_cmp key) in
    let epochs : length records ≡ n = (counted.1 (s.all refl)).epochs ∙ its_length n in
    record { epochs = epochs; each = counted.0.one_each; committed = all_kept records counted.0.one_each ∙ epochs }

-- ---- whatever it answers

pub all_go : {V : Type 0} (k : Kind V) (first : V) (steps : List (VaultCall × VaultAnswer)) (last : V) → AllCalled k first steps last → GoesOn (k.disk first) (k.disk last)
all_go k first [] last same = subst (λ x. GoesOn (k.disk first) (k.disk x)) (sym same) (goes_same (k.disk first))
all_go k first (step ∷ steps) last (mid, one, rest) = goes_then (k.disk first) (k.disk mid) (k.disk last) one.goes (all_go k mid steps last rest)

pub reads_called : {V : Type 0} (k : Kind V) (first : V) (before : Trace) (steps : List (VaultCall × VaultAnswer)) (last : V) (after : Trace) → AllShown k first before steps last after → AllCalled k first steps last
reads_called k first before [] last after (same, still) = same
reads_called k first before (step ∷ steps) last after (mid, at, one, shown, rest) = (mid, one, reads_called k mid at steps last after rest)

pub reads_go : {V : Type 0} (k : Kind V) (most : ℕ) (first : V) (before : Trace) (last : V) (after : Trace) → ReadsOnly k most first before last after → GoesOn (k.disk first) (k.disk last)
reads_go k most first before last after r = all_go k first r.steps last (reads_called k first before r.steps last after r.chain)

pub failed_goes : {V : Type 0} (k : Kind V) (most : ℕ) (first : V) (before : Trace) (refused : Fault) (last : V) (after : Trace) → ReadingFails k most first before refused last after → GoesOn (k.disk first) (k.disk last)
failed_goes k most first before refused last after (inl (memory, r)) = reads_go k most first before last after r
failed_goes k most first before refused last after (inr r) = goes_then (k.disk first) (k.disk r.mid) (k.disk last) (reads_go k most first before r.mid r.at r.behind) r.one.goes

module _ {V : Type 0} (k : Kind V) (counts : V → VaultCounts) (beat : BeatKind) (p : Params) (script : Scripts) (runners : List ScriptRunner) (first mid : V) where
  pub run_goes : (result : Result (Unit {0}) RunErr) → WasRun k counts beat p script runners first mid result → GoesOn (k.disk first) (k.disk mid)
  run_goes result run = let (acts, d, shaped) = runs_shaped true k script_runners beat _ _ result run.by in all_go k first (calls acts) mid (called k first blind (calls acts) d.notes mid blind d.chain)

  memory_alone : (refused : Fault) → refused ≡ fault.Memory → IsStoreFault refused → ⊥
  memory_alone refused is store = subst IsStoreFault is store

  pub run_cause : (refused : Fault) (err : RunErr) → WasRun k counts beat p script runners first mid (Err err) → refused ≡ fault_of err → IsStoreFault refused → Rose (k.disk first).faults (k.disk mid).faults
  run_cause refused err run same store =
      let (acts, d, shaped) = runs_shaped true k script_runners beat _ _ (Err err) run.by in
      ⊎_elim (λ short. absurd (memory_alone refused (same ∙ ap fault_of short.fault_is) store)) (λ failed. failed.cause (subst IsStoreFault same store)) d.ends
