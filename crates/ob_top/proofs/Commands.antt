-- What came of the words, command by command.
use Rattle.std.proofs.Common.{◌≡◌, ◌⊎◌, ℕ, List, Bool, true, false, not, is_some, Option, Some, None, refl, sym, ap, subst, inl, inr, arith, ◌∙◌}
use Rattle.std.specs.Borrow.{Bor}
use Rattle.ob_base.specs.declared.params.Params.{Params}
use Rattle.ob_base.specs.declared.fault.Field.{Field}
use Rattle.ob_base.specs.declared.fault.Field.TheVariants.{KEYS, LANES, COUNT}
use Rattle.ob_base.specs.declared.fault.Fault.{Fault}
use Rattle.ob_base.specs.declared.fault.Fault.TheVariants.{Memory, Usage, BadScript, BadParams, NotStore, Damaged, StoreFault, StashFull, Worn, SourceFault, SinkFault}
use Rattle.ob_seal.specs.declared.keys.Keys.{Keys}
use Rattle.ob_report.specs.Printed.{IsPrinted}
use Rattle.ob_report.specs.Faults.{fault_line, status_of}
use Rattle.ob_store.specs.Disk.{Disk}
use Rattle.ob_shares.specs.declared.shares.Shares.{Shares}
use Rattle.ob_desk.specs.Beats.{BeatKind}
use Rattle.ob_words.specs.Reading.{Asked, AskedShares, asked_by, format_asked, run_asked, audit_asked, drill_asked}
use Rattle.ob_words.specs.declared.work.Command.{Command}
use Rattle.ob_words.specs.declared.work.Command.TheVariants.{Format, Run}
use Rattle.ob_words.specs.Work.{AreParams, IsBadNumber, AreLanes, AreBadLanes, AreShares, IsBadCount, Asks, IsCommandOf, IsOutOfRange, IsRefusedFor, HasKeys, IsKeysRefused}
use Rattle.ob_top.specs.Begun.{AreFewLanes}
use Rattle.ob_conduct.specs.declared.run_err.RunErr.{RunErr}
use Rattle.ob_conduct.specs.declared.run_err.RunErr.TheVariants as failed
use Rattle.ob_io.specs.Streams.{Flow}
use Rattle.ob_top.specs.Outside.{Given, blind, Outside, IsCommandFinished, IsFinished, IsOnlyTold}
use Rattle.ob_top.specs.Formats.{FormatDone}
use Rattle.ob_vault.specs.RingKind.{ring_kind}
use Rattle.ob_vault.specs.RingLives.{ring_lives}
use Rattle.ob_top.specs.Audited.{ring_audits}
use Rattle.ob_top.specs.Runs.{RunDone}
use Rattle.ob_top.specs.Parts.{manner}
use Rattle.ob_store.specs.Lines.{Trace, first_line, open_line, start_line}
use Rattle.ob_top.specs.Top.{ByTrace}
use Rattle.ob_top.specs.Over.{AskForSomething, CommandDoes, IsRefusedWithout, TracedDoes, WatchedDoes, start_for, traced_of}
use Rattle.ob_top.proofs.Beginnings.{ring_quiet}
use Rattle.ob_top.proofs.Finishing.{run_done, format_done}

-- ---- words ask for one thing at most

pub one_asked : (words : List (List ℕ)) (a b : Asked) → asked_by words ≡ Some a → asked_by words ≡ Some b → a ≡ b
one_asked words a b first second = let same : Some a ≡ Some b = sym first ∙ second in cc same

pub nothing_asked : (words : List (List ℕ)) (a : Asked) → asked_by words ≡ None → asked_by words ≡ Some a → ⊥
nothing_asked words a none some = let same : None ≡ Some a = sym none ∙ some in cc same

params_at : (store keys : List ℕ) (numbers : List (List ℕ)) (trace : Option (List ℕ)) (command : Command) → IsCommandOf (format_asked store keys numbers trace) command → (p : Params) × AreParams numbers p
params_at store keys numbers trace (Format p traced) fits = (p, fits.0)
params_at store keys numbers trace (Run k by_hand traced mirrored shares) fits = absurd fits

lanes_at : (store keys : List ℕ) (lanes : Option (List ℕ)) (turns : Bool) (trace mirror : Option (List ℕ)) (limits : AskedShares) (command : Command) → IsCommandOf (run_asked store keys lanes turns trace mirror limits) command → (k : ℕ) × AreLanes lanes k × (shares : Shares) × AreShares limits shares
lanes_at store keys lanes turns trace mirror limits (Format p traced) fits = absurd fits
lanes_at store keys lanes turns trace mirror limits (Run k by_hand traced mirrored shares) fits = (k, fits.0, shares, fits.4)

-- a run that is asked for has from 1 to 16 lanes
in_range : (lanes : Option (List ℕ)) (k : ℕ) → AreLanes lanes k → AreFewLanes k
in_range None k are = (omega (arith, are), omega (arith, are))
in_range (Some word) k are = (are.1, are.2)

run_of : (asked : Asked) (k : ℕ) (turns traced mirrored : Bool) (shares : Shares) → IsCommandOf asked (Run k turns traced mirrored shares) → AreFewLanes k
run_of (format_asked store keys numbers trace) k turns traced mirrored shares fits = absurd fits
run_of (run_asked store keys lanes by_hand trace mirror limits) k turns traced mirrored shares fits = in_range lanes k fits.0
run_of audit_asked k turns traced mirrored shares fits = absurd fits
run_of (drill_asked word) k turns traced mirrored shares fits = absurd fits

pub few_lanes : (words : List (List ℕ)) (k : ℕ) (turns traced mirrored : Bool) (shares : Shares) → Asks words (Run k turns traced mirrored shares) → AreFewLanes k
few_lanes words k turns traced mirrored shares (asked, by, fits) = run_of asked k turns traced mirrored shares fits

none_over : (command : Command) → IsCommandOf audit_asked command → ⊥
none_over (Format p traced) fits = fits
none_over (Run k by_hand traced mirrored shares) fits = fits

-- an audit is nothing over a store
audit_alone : (words : List (List ℕ)) → AskForSomething words → asked_by words ≡ Some audit_asked → ⊥
audit_alone words (command, (asked, by, fits)) asks = none_over command (subst (λ (a : Asked). IsCommandOf a command) (one_asked words asked audit_asked by asks) fits)

-- nor is a self-test
none_counted : (word : List ℕ) (command : Command) → IsCommandOf (drill_asked word) command → ⊥
none_counted word (Format p traced) fits = fits
none_counted word (Run k by_hand traced mirrored shares) fits = fits

drill_alone : (words : List (List ℕ)) → AskForSomething words → (count : List ℕ) → asked_by words ≡ Some (drill_asked count) → ⊥
drill_alone words (command, (asked, by, fits)) count asks = none_counted count command (subst (λ (a : Asked). IsCommandOf a command) (one_asked words asked (drill_asked count) by asks) fits)

-- the three refusals of words
abbrev WordsRefused : List (List ℕ) → Fault → Type 0
WordsRefused words f =
    (f ≡ Memory) ⊎ (((f ≡ Usage) × (asked_by words ≡ None))
    ⊎ ((field : Field) × (f ≡ BadParams field) × ((asked : Asked) × (asked_by words ≡ Some asked) × IsOutOfRange asked field)))

refusals : (words : List (List ℕ)) (f : Fault) → IsRefusedFor words f → WordsRefused words f
refusals words Memory refused = inl refl
refusals words Usage none = inr (inl (refl, none))
refusals words (BadParams field) out = inr (inr (field, refl, out))
refusals words (BadScript line) never = absurd never
refusals words NotStore never = absurd never
refusals words (Damaged cell check kept computed) never = absurd never
refusals words (StoreFault unsure) never = absurd never
refusals words (StashFull rows) never = absurd never
refusals words (Worn number) never = absurd never
refusals words SourceFault never = absurd never
refusals words SinkFault never = absurd never

-- a command that was refused before anything was touched
as_finished : (before after : Flow) (f : Fault) (status : ℕ) (err : Option RunErr) → err ≡ Some (failed.Fault f) → IsCommandFinished before after err status → IsFinished before after (Some f) status
as_finished before after f status err is done =
    let now : IsCommandFinished before after (Some (failed.Fault f)) status = subst (λ (x : Option RunErr). IsCommandFinished before after x status) is done in
    record { status_is = now.status_is; line = now.line }

-- one of the first two of three
early : {A B C : Type 0} → A ⊎ B → A ⊎ (B ⊎ C)
early (inl a) = inl a
early (inr b) = inr (inl b)

module _ (before mid after : Outside) (status : ℕ) (input : after.input ≡ mid.input) where
  -- a refusal before anything was touched
  only_told : (fault : Fault) → mid ≡ before → status ≡ status_of (Some fault) → IsPrinted mid.output after.output (fault_line (Some fault)) → IsOnlyTold fault before after status
  only_told fault same status_is line = record {
    status_is = status_is;
    untouched = input ∙ ap (λ (o : Outside). o.input) same;
    printed = subst (λ (o : Outside). IsPrinted o.output after.output (fault_line (Some fault))) same line;
  }

  -- so are keys that are refused
  keys_told : (text : Option (Bor (List ℕ))) (f : Fault) → IsKeysRefused text f → mid ≡ before → IsFinished mid.output after.output (Some f) status → IsOnlyTold f before after status
  keys_told None f is same done =
      let now : IsFinished mid.output after.output (Some SourceFault) status = subst (λ (x : Fault). IsFinished mid.output after.output (Some x) status) is done in
      subst (λ (x : Fault). IsOnlyTold x before after status) (sym is) (only_told SourceFault same now.status_is now.line)
  keys_told (Some text) f (is, none) same done =
      let now : IsFinished mid.output after.output (Some (BadParams KEYS)) status = subst (λ (x : Fault). IsFinished mid.output after.output (Some x) status) is done in
      subst (λ (x : Fault). IsOnlyTold x before after status) (sym is) (only_told (BadParams KEYS) same now.status_is now.line)

  -- what was refused before anything was touched
  module _ (Kept : Type 0) (kept : Kept) (same : mid ≡ before) (words : List (List ℕ)) (text : Option (Bor (List ℕ))) (fault : Option Fault) (f : Fault) (is : fault ≡ Some f) (done : IsFinished mid.output after.output fault status) where
    abbrev Tells : Fault → Type 0
    Tells g = Kept × IsOnlyTold g before after status

    memory_told : f ≡ Memory → Tells Memory
    memory_told memory =
        let now : IsFinished mid.output after.output (Some Memory) status = subst (λ (x : Option Fault). IsFinished mid.output after.output x status) (is ∙ ap Some memory) done in
        (kept, only_told Memory same now.status_is now.line)

    usage_told : f ≡ Usage → Tells Usage
    usage_told usage =
        let now : IsFinished mid.output after.output (Some Usage) status = subst (λ (x : Option Fault). IsFinished mid.output after.output x status) (is ∙ ap Some usage) done in
        (kept, only_told Usage same now.status_is now.line)

    number_told : (field : Field) → f ≡ BadParams field → Tells (BadParams field)
    number_told field bad =
        let now : IsFinished mid.output after.output (Some (BadParams field)) status = subst (λ (x : Option Fault). IsFinished mid.output after.output x status) (is ∙ ap Some bad) done in
        (kept, only_told (BadParams field) same now.status_is now.line)

    none_told : f ≡ StoreFault None → IsOnlyTold (StoreFault None) before after status
    none_told none =
        let now : IsFinished mid.output after.output (Some (StoreFault None)) status = subst (λ (x : Option Fault). IsFinished mid.output after.output x status) (is ∙ ap Some none) done in
        only_told (StoreFault None) same now.status_is now.line

    keys_tell : IsKeysRefused text f → (g : Fault) × IsKeysRefused text g × Tells g
    keys_tell bad = (f, bad, (kept, keys_told text f bad same (subst (λ (x : Option Fault). IsFinished mid.output after.output x status) is done)))

    usage_tells : IsRefusedFor words f → asked_by words ≡ None → Tells Usage ⊎ Tells Memory
    usage_tells refused nothing = by_refusal (refusals words f refused)
      where
        by_refusal : WordsRefused words f → Tells Usage ⊎ Tells Memory
        by_refusal (inl memory) = inr (memory_told memory)
        by_refusal (inr (inl (usage, none))) = inl (usage_told usage)
        by_refusal (inr (inr (field, bad, (asked, by, out)))) = absurd (nothing_asked words asked nothing by)

    audit_tells : IsRefusedFor words f → asked_by words ≡ Some audit_asked → Tells Memory
    audit_tells refused asks = by_refusal (refusals words f refused)
      where
        by_refusal : WordsRefused words f → Tells Memory
        by_refusal (inl memory) = memory_told memory
        by_refusal (inr (inl (usage, none))) = absurd (nothing_asked words audit_asked none asks)
        by_refusal (inr (inr (field, bad, (asked, by, out)))) = absurd (subst (λ (a : Asked). IsOutOfRange a field) (one_asked words asked audit_asked by asks) out)

    format_tells : (store keys : List ℕ) (numbers : List (List ℕ)) (trace : Option (List ℕ)) → IsRefusedFor words f → asked_by words ≡ Some (format_asked store keys numbers trace)
        → Tells Memory ⊎ ((field : Field) × IsBadNumber numbers field × Tells (BadParams field))
    format_tells store keys numbers trace refused asks = by_refusal (refusals words f refused)
      where
        by_refusal : WordsRefused words f → Tells Memory ⊎ ((field : Field) × IsBadNumber numbers field × Tells (BadParams field))
        by_refusal (inl memory) = inl (memory_told memory)
        by_refusal (inr (inl (usage, none))) = absurd (nothing_asked words (format_asked store keys numbers trace) none asks)
        by_refusal (inr (inr (field, bad, (asked, by, out)))) =
            inr (field, subst (λ (a : Asked). IsOutOfRange a field) (one_asked words asked (format_asked store keys numbers trace) by asks) out, number_told field bad)

    run_tells : (store keys : List ℕ) (lanes : Option (List ℕ)) (turns : Bool) (trace mirror : Option (List ℕ)) (limits : AskedShares) → IsRefusedFor words f → asked_by words ≡ Some (run_asked store keys lanes turns trace mirror limits)
        → Tells Memory ⊎ (AreBadLanes lanes × Tells (BadParams LANES))
    run_tells store keys lanes turns trace mirror limits refused asks = by_refusal (refusals words f refused)
      where
        by_refusal : WordsRefused words f → Tells Memory ⊎ (AreBadLanes lanes × Tells (BadParams LANES))
        by_refusal (inl memory) = inl (memory_told memory)
        by_refusal (inr (inl (usage, none))) = absurd (nothing_asked words (run_asked store keys lanes turns trace mirror limits) none asks)
        by_refusal (inr (inr (field, bad, (asked, by, out)))) =
            let bad_lanes = subst (λ (a : Asked). IsOutOfRange a field) (one_asked words asked (run_asked store keys lanes turns trace mirror limits) by asks) out in
            inr (bad_lanes.1, number_told LANES (bad ∙ ap BadParams bad_lanes.0))

    drill_tells : (word : List ℕ) → IsRefusedFor words f → asked_by words ≡ Some (drill_asked word) → Tells Memory ⊎ (IsBadCount word × Tells (BadParams COUNT))
    drill_tells word refused asks = by_refusal (refusals words f refused)
      where
        by_refusal : WordsRefused words f → Tells Memory ⊎ (IsBadCount word × Tells (BadParams COUNT))
        by_refusal (inl memory) = inl (memory_told memory)
        by_refusal (inr (inl (usage, none))) = absurd (nothing_asked words (drill_asked word) none asks)
        by_refusal (inr (inr (field, bad, (asked, by, out)))) =
            let bad_count = subst (λ (a : Asked). IsOutOfRange a field) (one_asked words asked (drill_asked word) by asks) out in
            inr (bad_count.1, number_told COUNT (bad ∙ ap BadParams bad_count.0))

  -- the command of a request is the one that the words ask for
  params_asked : (words : List (List ℕ)) (asked : Asked) (command : Command) (store keys : List ℕ) (numbers : List (List ℕ)) (trace : Option (List ℕ)) → asked_by words ≡ Some asked → IsCommandOf asked command
      → asked_by words ≡ Some (format_asked store keys numbers trace) → IsCommandOf (format_asked store keys numbers trace) command
  params_asked words asked command store keys numbers trace by fits asks = subst (λ (a : Asked). IsCommandOf a command) (one_asked words asked (format_asked store keys numbers trace) by asks) fits

  lanes_asked : (words : List (List ℕ)) (asked : Asked) (command : Command) (store keys : List ℕ) (lanes : Option (List ℕ)) (turns : Bool) (trace mirror : Option (List ℕ)) (limits : AskedShares) → asked_by words ≡ Some asked → IsCommandOf asked command
      → asked_by words ≡ Some (run_asked store keys lanes turns trace mirror limits) → IsCommandOf (run_asked store keys lanes turns trace mirror limits) command
  lanes_asked words asked command store keys lanes turns trace mirror limits by fits asks = subst (λ (a : Asked). IsCommandOf a command) (one_asked words asked (run_asked store keys lanes turns trace mirror limits) by asks) fits

  -- ---- with a store

  module _ {S W : Type 0} (disk : S → Disk) (flow : W → Flow) (beat : BeatKind) (tape : Given) (words : List (List ℕ)) (text : Option (Bor (List ℕ))) (old new : S) (was is : Option W) where
    -- nothing was touched
    abbrev Kept : Type 0
    Kept = (new ≡ old) × (is ≡ was)

    abbrev Tell : Fault → Type 0
    Tell f = Kept × IsOnlyTold f before after status

    abbrev KeysTell : Type 0
    KeysTell = (f : Fault) × IsKeysRefused text f × Tell f

    abbrev FormatsBy : Keys → Params → Option (List ℕ) → Type 0
    FormatsBy keys p trace = ByTrace flow was is before after status trace (start_line p) (λ t u. FormatDone ring_kind ring_lives ring_audits disk tape keys p old new before after t u status) old new

    abbrev RunsBy : Keys → ℕ → Bool → Option (List ℕ) → Shares → Type 0
    RunsBy keys k turns trace shares = ByTrace flow was is before after status trace (open_line false) (λ t u. RunDone ring_kind ring_lives ring_audits disk (manner beat (not turns) k shares) tape keys old new before after t u status) old new

    abbrev FormatTells : List (List ℕ) → Option (List ℕ) → Type 0
    FormatTells numbers trace = Tell Memory ⊎ (((field : Field) × IsBadNumber numbers field × Tell (BadParams field))
        ⊎ ((p : Params) × AreParams numbers p × (KeysTell ⊎ ((keys : Keys) × HasKeys text keys × FormatsBy keys p trace))))

    abbrev RunTells : Option (List ℕ) → Bool → Option (List ℕ) → AskedShares → Type 0
    RunTells lanes turns trace limits = Tell Memory ⊎ ((AreBadLanes lanes × Tell (BadParams LANES))
        ⊎ ((k : ℕ) × AreLanes lanes k × (shares : Shares) × AreShares limits shares × (KeysTell ⊎ ((keys : Keys) × HasKeys text keys × RunsBy keys k turns trace shares))))

    abbrev Ended : Option RunErr → Type 0
    Ended err = IsCommandFinished mid.output after.output err status

    pub usage_done : (err : Option RunErr) → CommandDoes disk flow beat tape words text old new before mid was is err → Ended err → asked_by words ≡ None → Tell Usage ⊎ Tell Memory
    usage_done err (inl (f, told, inl refused, kept, same)) done nothing = usage_tells Kept kept same words text (Some f) f refl (as_finished mid.output after.output f status err told done) refused nothing
    usage_done err (inl (f, told, inr ((command, (asked, by, fits)), bad), kept, same)) done nothing = absurd (nothing_asked words asked nothing by)
    usage_done err (inr (keys, has, (command, (asked, by, fits), does))) done nothing = absurd (nothing_asked words asked nothing by)

    pub audit_told : (err : Option RunErr) → CommandDoes disk flow beat tape words text old new before mid was is err → Ended err → asked_by words ≡ Some audit_asked → Tell Memory
    audit_told err (inl (f, told, inl refused, kept, same)) done asks = audit_tells Kept kept same words text (Some f) f refl (as_finished mid.output after.output f status err told done) refused asks
    audit_told err (inl (f, told, inr (some, bad), kept, same)) done asks = absurd (audit_alone words some asks)
    audit_told err (inr (keys, has, (command, fits, does))) done asks = absurd (audit_alone words (command, fits) asks)

    pub drill_told : (err : Option RunErr) → CommandDoes disk flow beat tape words text old new before mid was is err → Ended err → (word : List ℕ) → asked_by words ≡ Some (drill_asked word)
        → Tell Memory ⊎ (IsBadCount word × Tell (BadParams COUNT))
    drill_told err (inl (f, told, inl refused, kept, same)) done word asks = drill_tells Kept kept same words text (Some f) f refl (as_finished mid.output after.output f status err told done) word refused asks
    drill_told err (inl (f, told, inr (some, bad), kept, same)) done word asks = absurd (drill_alone words some word asks)
    drill_told err (inr (keys, has, (command, fits, does))) done word asks = absurd (drill_alone words (command, fits) word asks)

    module _ (err : Option RunErr) (done : Ended err) where
      -- for want of a trace
      untraced_told : (new ≡ old) × (mid ≡ before) × (err ≡ Some failed.Unwatched) → (new ≡ old) × IsOnlyTold SinkFault before after status
      untraced_told (kept, same, told) =
          let now : Ended (Some failed.Unwatched) = subst Ended told done in
          (kept, only_told SinkFault same now.status_is now.line)

      by_trace : (command : Command) (keys : Keys) (traced : Bool) (trace : Option (List ℕ)) → traced ≡ is_some trace → TracedDoes disk flow beat tape command keys old new before mid was is err traced → (Done : Trace → Trace → Type 0)
          → ((t u : Trace) → WatchedDoes disk beat tape command keys old new before mid t u err → Done t u) → ByTrace flow was is before after status trace (first_line (start_for command)) Done old new
      by_trace command keys false None same (kept, does) Done so = (kept, so blind blind does)
      by_trace command keys true (Some file) same (inl (none, kept, un)) Done so = let told = untraced_told un in inl (none, kept, told.0, told.1)
      by_trace command keys true (Some file) same (inr (t, u, has, inl (broken, still, un))) Done so = let told = untraced_told un in inr (t, u, has, inl (broken, still, told.0, told.1))
      by_trace command keys true (Some file) same (inr (t, u, has, inr (whole, does))) Done so = inr (t, u, has, inr (whole, so t u does))
      by_trace command keys true None same does Done so = absurd (not_both same)
        where
          not_both : true ≡ false → ⊥
          not_both one = cc one
      by_trace command keys false (Some file) same does Done so = absurd (not_both same)
        where
          not_both : false ≡ true → ⊥
          not_both one = cc one

      formats_by : (store keys : List ℕ) (numbers : List (List ℕ)) (trace : Option (List ℕ)) (found : Keys) (command : Command) → IsCommandOf (format_asked store keys numbers trace) command → TracedDoes disk flow beat tape command found old new before mid was is err (traced_of command)
          → (p : Params) × AreParams numbers p × FormatsBy found p trace
      formats_by store keys numbers trace found (Format p traced) fits does = (
        p,
        fits.0,
        by_trace (Format p traced) found traced trace fits.1 does (λ t u. FormatDone ring_kind ring_lives ring_audits disk tape found p old new before after t u status)
            (λ t u watched. format_done ring_kind ring_quiet ring_lives ring_audits disk tape found p old new before mid after t u status err watched.0 watched.1 watched.2 input done),
      )
      formats_by store keys numbers trace found (Run k by_hand traced mirrored shares) fits does = absurd fits

      runs_by : (store keys : List ℕ) (lanes : Option (List ℕ)) (turns : Bool) (trace mirror : Option (List ℕ)) (limits : AskedShares) (found : Keys) (command : Command) → IsCommandOf (run_asked store keys lanes turns trace mirror limits) command → TracedDoes disk flow beat tape command found old new before mid was is err (traced_of command)
          → (k : ℕ) × AreLanes lanes k × (shares : Shares) × AreShares limits shares × RunsBy found k turns trace shares
      runs_by store keys lanes turns trace mirror limits found (Run k by_hand traced mirrored shares) (are, same, given, also, limited) does = (
        k,
        are,
        shares,
        limited,
        subst (λ (b : Bool). RunsBy found k b trace shares) same
            (by_trace (Run k by_hand traced mirrored shares) found traced trace given does (λ t u. RunDone ring_kind ring_lives ring_audits disk (manner beat (not by_hand) k shares) tape found old new before after t u status)
            (λ t u on. run_done ring_kind ring_quiet ring_lives ring_audits disk (manner beat (not by_hand) k shares) tape found old new before mid after t u input status err on done)),
      )
      runs_by store keys lanes turns trace mirror limits found (Format p traced) fits does = absurd fits

    pub format_does : (err : Option RunErr) → CommandDoes disk flow beat tape words text old new before mid was is err → Ended err
        → (store keys : List ℕ) (numbers : List (List ℕ)) (trace : Option (List ℕ)) → asked_by words ≡ Some (format_asked store keys numbers trace) → FormatTells numbers trace
    format_does err (inl (f, told, inl refused, kept, same)) done store keys numbers trace asks = early (format_tells Kept kept same words text (Some f) f refl (as_finished mid.output after.output f status err told done) store keys numbers trace refused asks)
    format_does err (inl (f, told, inr ((command, (asked, by, fits)), bad), kept, same)) done store keys numbers trace asks =
        let (p, are) = params_at store keys numbers trace command (params_asked words asked command store keys numbers trace by fits asks) in
        inr (inr (p, are, inl (keys_tell Kept kept same words text (Some f) f refl (as_finished mid.output after.output f status err told done) bad)))
    format_does err (inr (found, has, (command, (asked, by, fits), does))) done store keys numbers trace asks =
        let (p, are, its) = formats_by err done store keys numbers trace found command (params_asked words asked command store keys numbers trace by fits asks) does in
        inr (inr (p, are, inr (found, has, its)))

    pub run_does : (err : Option RunErr) → CommandDoes disk flow beat tape words text old new before mid was is err → Ended err
        → (store keys : List ℕ) (lanes : Option (List ℕ)) (turns : Bool) (trace mirror : Option (List ℕ)) (limits : AskedShares) → asked_by words ≡ Some (run_asked store keys lanes turns trace mirror limits) → RunTells lanes turns trace limits
    run_does err (inl (f, told, inl refused, kept, same)) done store keys lanes turns trace mirror limits asks = early (run_tells Kept kept same words text (Some f) f refl (as_finished mid.output after.output f status err told done) store keys lanes turns trace mirror limits refused asks)
    run_does err (inl (f, told, inr ((command, (asked, by, fits)), bad), kept, same)) done store keys lanes turns trace mirror limits asks =
        let (k, are, shares, limited) = lanes_at store keys lanes turns trace mirror limits command (lanes_asked words asked command store keys lanes turns trace mirror limits by fits asks) in
        inr (inr (k, are, shares, limited, inl (keys_tell Kept kept same words text (Some f) f refl (as_finished mid.output after.output f status err told done) bad)))
    run_does err (inr (found, has, (command, (asked, by, fits), does))) done store keys lanes turns trace mirror limits asks =
        let (k, are, shares, limited, its) = runs_by err done store keys lanes turns trace mirror limits found command (lanes_asked words asked command store keys lanes turns trace mirror limits by fits asks) does in
        inr (inr (k, are, shares, limited, inr (found, has, its)))

  -- ---- without one

  module _ (Kept : Type 0) (kept : Kept) (words : List (List ℕ)) (text : Option (Bor (List ℕ))) (fault : Fault) (same : mid ≡ before) (done : IsFinished mid.output after.output (Some fault) status) where
    abbrev Alone : Fault → Type 0
    Alone f = (Unit {0} × Kept) × IsOnlyTold f before after status

    abbrev KeysAlone : Type 0
    KeysAlone = (f : Fault) × IsKeysRefused text f × Alone f

    abbrev NoneAlone : Type 0
    NoneAlone = KeysAlone ⊎ ((keys : Keys) × HasKeys text keys × (Kept × IsOnlyTold (StoreFault None) before after status))

    keys_alone : IsKeysRefused text fault → KeysAlone
    keys_alone bad = keys_tell (Unit {0} × Kept) (tt, kept) same words text (Some fault) fault refl done bad

    none_alone : fault ≡ StoreFault None → Kept × IsOnlyTold (StoreFault None) before after status
    none_alone is = (kept, none_told (Unit {0} × Kept) (tt, kept) same words text (Some fault) fault refl done is)

    pub no_store_usage : IsRefusedWithout words text fault → asked_by words ≡ None → Alone Usage ⊎ Alone Memory
    no_store_usage (inl (inl refused)) nothing = usage_tells (Unit {0} × Kept) (tt, kept) same words text (Some fault) fault refl done refused nothing
    no_store_usage (inl (inr ((command, (asked, by, fits)), bad))) nothing = absurd (nothing_asked words asked nothing by)
    no_store_usage (inr ((command, (asked, by, fits)), has, is)) nothing = absurd (nothing_asked words asked nothing by)

    pub no_store_audit : IsRefusedWithout words text fault → asked_by words ≡ Some audit_asked → Alone Memory
    no_store_audit (inl (inl refused)) asks = audit_tells (Unit {0} × Kept) (tt, kept) same words text (Some fault) fault refl done refused asks
    no_store_audit (inl (inr (some, bad))) asks = absurd (audit_alone words some asks)
    no_store_audit (inr (some, has, is)) asks = absurd (audit_alone words some asks)

    pub no_store_drill : IsRefusedWithout words text fault → (word : List ℕ) → asked_by words ≡ Some (drill_asked word) → Alone Memory ⊎ (IsBadCount word × Alone (BadParams COUNT))
    no_store_drill (inl (inl refused)) word asks = drill_tells (Unit {0} × Kept) (tt, kept) same words text (Some fault) fault refl done word refused asks
    no_store_drill (inl (inr (some, bad))) word asks = absurd (drill_alone words some word asks)
    no_store_drill (inr (some, has, is)) word asks = absurd (drill_alone words some word asks)

    pub no_store_format : IsRefusedWithout words text fault → (store keys : List ℕ) (numbers : List (List ℕ)) (trace : Option (List ℕ)) → asked_by words ≡ Some (format_asked store keys numbers trace)
        → Alone Memory ⊎ (((field : Field) × IsBadNumber numbers field × Alone (BadParams field)) ⊎ ((p : Params) × AreParams numbers p × NoneAlone))
    no_store_format (inl (inl refused)) store keys numbers trace asks = early (format_tells (Unit {0} × Kept) (tt, kept) same words text (Some fault) fault refl done store keys numbers trace refused asks)
    no_store_format (inl (inr ((command, (asked, by, fits)), bad))) store keys numbers trace asks =
        let (p, are) = params_at store keys numbers trace command (params_asked words asked command store keys numbers trace by fits asks) in inr (inr (p, are, inl (keys_alone bad)))
    no_store_format (inr ((command, (asked, by, fits)), (found, has), is)) store keys numbers trace asks =
        let (p, are) = params_at store keys numbers trace command (params_asked words asked command store keys numbers trace by fits asks) in inr (inr (p, are, inr (found, has, none_alone is)))

    pub no_store_run : IsRefusedWithout words text fault → (store keys : List ℕ) (lanes : Option (List ℕ)) (turns : Bool) (trace mirror : Option (List ℕ)) (limits : AskedShares) → asked_by words ≡ Some (run_asked store keys lanes turns trace mirror limits)
        → Alone Memory ⊎ ((AreBadLanes lanes × Alone (BadParams LANES)) ⊎ ((k : ℕ) × AreLanes lanes k × (shares : Shares) × AreShares limits shares × NoneAlone))
    no_store_run (inl (inl refused)) store keys lanes turns trace mirror limits asks = early (run_tells (Unit {0} × Kept) (tt, kept) same words text (Some fault) fault refl done store keys lanes turns trace mirror limits refused asks)
    no_store_run (inl (inr ((command, (asked, by, fits)), bad))) store keys lanes turns trace mirror limits asks =
        let (k, are, shares, limited) = lanes_at store keys lanes turns trace mirror limits command (lanes_asked words asked command store keys lanes turns trace mirror limits by fits asks) in inr (inr (k, are, shares, limited, inl (keys_alone bad)))
    no_store_run (inr ((command, (asked, by, fits)), (found, has), is)) store keys lanes turns trace mirror limits asks =
        let (k, are, shares, limited) = lanes_at store keys lanes turns trace mirror limits command (lanes_asked words asked command store keys lanes turns trace mirror limits by fits asks) in inr (inr (k, are, shares, limited, inr (found, has, none_alone is)))
