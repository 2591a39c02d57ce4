-- A run of a row, with what it showed, its last call cut short anywhere, is a run as a history's.
use Rattle.std.specs.Prelude.{◌≡◌, ◌⊎◌, ◌||◌, ◌≤◌, ℕ, ◌+◌, ◌*◌, ◌-◌, ◌%◌, Bool, true, false, List, [], ◌∷◌, ◌++◌, length, Option, None, Some}
use Rattle.std.specs.List.{flat_map}
use Rattle.std.specs.Ordering.{nat_cmp}
use Rattle.std.proofs.Common.{suc, add-one, append_assoc, arith, length-append, refl, sym, ap, ◌∙◌, subst, inl, inr, ⊎_elim}
use Rattle.std.proofs.lemmas.Bool.{cases_eq}
use Rattle.std.proofs.lemmas.List.{append-nil, length-map}
use Rattle.ob_base.specs.Layout.{EpochTwin}
use Rattle.ob_base.specs.Repeats.{Has}
use Rattle.ob_base.specs.Tree.{below, width}
use Rattle.ob_base.specs.declared.params.Params.{Params}
use Rattle.ob_store.specs.Disk.{Disk, Image}
use Rattle.ob_store.specs.declared.event.Event.{Event}
use Rattle.ob_store.specs.declared.watch.Note.{Note}
use Rattle.ob_tables.specs.Rank.{IsRanking}
use Rattle.ob_twin.specs.declared.gates.Gates.{Gates}
use Rattle.ob_twin.specs.declared.gates.Open.{Open as OpenGates}
use Rattle.ob_twin.specs.Opening.{GatesAre, is_marked}
use Rattle.ob_twin.specs.Register.{IsOpen}
use Rattle.ob_schedule.specs.Schedule.{Fills, Public, batch_leaves, before_repeats, gate_cell, head_notes, open_notes, record_notes, repeats}
use Rattle.ob_seal.specs.declared.keys.Keys.{Keys}
use Rattle.ob_ring.specs.FlatTable.{reads}
use Rattle.ob_recover.specs.Calls.{Finds}
use Rattle.ob_recover.specs.Known.{fills_of, gates_open, public_of_kept}
use Rattle.ob_recover.specs.Life.{WordId, LifeAct, LifeBatch, LifeContent, LifeState, SlotFill, Append, End as EndAct, Open, ShowBatch, ShowLifts, IsLife, formatted_life, life_slots, life_step, planned_labels, reached}
use Rattle.ob_recover.specs.LifePublic.{public_in}
use Rattle.ob_recover.specs.Lives.{life_batch}
use Rattle.ob_recover.proofs.LifeLabels.{planned_lasts}
use Rattle.ob_serial.specs.Serial.{Map}
use Rattle.ob_serial.specs.Vaults.{End, Fetch, VaultCall}
use Rattle.ob_opening.specs.OpeningActs.{AreGatesIn, StandsInLife}
use Rattle.ob_vault.specs.Hidden.{RingDrawsCut, RingHidden}
use Rattle.ob_vault.specs.KindShown.{public_behind, steps_notes}
use Rattle.ob_vault.specs.Lives.{AreFirstActs, AreShowing, IsBarelySeen, IsLeftInLife, IsOpenedInLife, IsRunInLife, opening_acts}
use Rattle.ob_vault.specs.RingKind.{IsRingMap, RingFound, ring_kind, ring_public}
use Rattle.ob_vault.specs.Seen.{RingPublic, opening_shows, ring_next, ring_notes}
use Rattle.ob_vault.specs.Shapes.{Ends, Fetches, Shape, shape_of}
use Rattle.ob_vault.specs.Shown.{AreActsOf, AreFilledBy, AreShownBy}
use Rattle.ob_fresh.proofs.Publics.{open_formatted}
use Rattle.ob_vault.proofs.Fetching.{none_pending}
use Rattle.ob_vault.proofs.OpenedRun.{IsFurther, further}
use Rattle.ob_vault.proofs.Whole.{reached_join}
use Rattle.ob_histories.specs.Fills.{AllFills}
use Rattle.ob_histories.specs.Histories.{IsGateLeft}
use Rattle.ob_histories.specs.Runs.{HistoryTurn, RunFound, notes_of_turn}
use Rattle.ob_admitted.specs.Between.{AreActsLeft, IsFoundAsShown, turn_of_run}
use Rattle.ob_admitted.specs.Calls.{AreStepsOf, public_of_life}
use Rattle.ob_admitted.specs.Cuts.{IsCutFilled, life_behind_calls, public_of_calls}
use Rattle.ob_admitted.specs.Fills.{FillsAll}
use Rattle.ob_admitted.specs.Gates.{IsGateFoundBy, LeavesGates}
use Rattle.ob_admitted.specs.Lives.{IsLifeFilled}
use Rattle.ob_admitted.specs.Parts.{IsLeftAsShown}
use Rattle.ob_admitted.specs.Served.{IsRecordAlone, IsRefusedFilled, IsServedLeft, IsServedRun, IsServedThen, notes_of_refused}
use Rattle.ob_admitted.specs.Told.{AreGatesLeft, AreGatesShown, record_row}
use Rattle.ob_admitted.specs.Wholes.{AreGatesKept, IsRunFilled, found_of_life, notes_of_run}
use Rattle.ob_admitted.proofs.Acts.{Sound, acts_left, batch_whole, calls_sound, slots_first, slots_last}
use Rattle.ob_admitted.proofs.Betweens.{HasGateOf, IsTurnOf, gates_lead, turn_at_end, turn_begun, turn_from}
use Rattle.ob_admitted.proofs.Cutting.{record_many, rows_many}
use Rattle.ob_admitted.proofs.Publics.{formatted_goes, goes_along}
use Rattle.ob_admitted.proofs.Wholes.{turn_at}
use Rattle.ob_admitted.proofs.Fronting.{IsFrontNoted, IsFrontShown, IsServedFront, front_lacking}
use Rattle.ob_admitted.proofs.Shown.{front_take}

-- ---- gates

or_false : (b : Bool) → (b || false) ≡ b
or_false true = refl
or_false false = refl

abbrev pub IsPlace : ℕ → Type 0
IsPlace m = (m ≡ 0) ⊎ (m ≡ 1)

pub two_places : (n : ℕ) → IsPlace (n % 2)
two_places n = ⊎_elim (λ e. inl e) (λ ne. inr (omega arith)) (cases_eq (n % 2) 0)

pub marked : (gates : Gates) (m : ℕ) → IsPlace m → gates_open gates (5 + 2 * m + 1) ≡ is_marked gates.epoch m
marked gates m (inl is) = subst (λ (n : ℕ). gates_open gates (5 + 2 * n + 1) ≡ is_marked gates.epoch n) (sym is) (or_false (gates.epoch).zero)
marked gates m (inr is) = subst (λ (n : ℕ). gates_open gates (5 + 2 * n + 1) ≡ is_marked gates.epoch n) (sym is) refl

pub open_marked : (known : OpenGates) (image : Image) → GatesAre known 5 image → (m : ℕ) → IsPlace m → IsOpen 5 image m → is_marked known m ≡ true
open_marked known image are m (inl is) opened = subst (λ (n : ℕ). is_marked known n ≡ true) (sym is) ((are.zero).1 (subst (λ (n : ℕ). IsOpen 5 image n) is opened))
open_marked known image are m (inr is) opened = subst (λ (n : ℕ). is_marked known n ≡ true) (sym is) ((are.one).1 (subst (λ (n : ℕ). IsOpen 5 image n) is opened))

-- ---- an opening's notes

-- they go by the epoch, and by what is public of the buckets
pub opening_by : (p : Params) (c : Fills) (found : ℕ → Bool) (q r : Public) (g h m n : ℕ) → q.epoch ≡ r.epoch → q.homes ≡ r.homes → q.counts ≡ r.counts → q.counter ≡ r.counter → g ≡ h → m ≡ n → open_notes p q c found g m ≡ open_notes p r c found h n
opening_by p c found q r g h m n epoch homes counts counter generation many = λ i.
    before_repeats p (record { epoch = epoch i; homes = homes i; counts = counts i; counter = counter i; gates = found; leaves = [] }) found (generation i)
    ++ repeats p (record { epoch = epoch i; homes = homes i; counts = counts i; counter = counter i; gates = found; leaves = [] }) c 0 (many i)

-- ---- what is left

no_acts : (a : LifeAct) (more : List LifeAct) → [] ≡ a ∷ more → ⊥
no_acts a more e = cc e

no_fetch : (ws : List (ℕ × Option (List ℕ))) (asks : List (Option ℕ)) → ◌≡◌ {A = Option VaultCall} (Some (End ws)) (Some (Fetch asks)) → ⊥
no_fetch ws asks e = cc e

same_asks : (a b : List (Option ℕ)) → ◌≡◌ {A = Option VaultCall} (Some (Fetch a)) (Some (Fetch b)) → a ≡ b
same_asks a b e = cc e

nothing_found : (found : List LifeAct) → Finds None found → found ≡ []
nothing_found found (inl none) = none
nothing_found found (inr (a, pending, is)) = none_pending (found ≡ []) a pending

-- so many batches of the epoch were shown as its log has
shown_behind : (p : Params) (word_of : WordId → ℕ) (calls : List VaultCall) (steps : List (Shape × Fills)) (q : RingPublic) (s : LifeState) (acts : List LifeAct) → q.shown ≡ length s.log → AreStepsOf calls steps → AreShownBy p word_of s calls steps acts
    → (public_behind ring_kind p q steps).shown ≡ length (reached p word_of s acts).log
shown_behind p word_of [] [] q s acts same steps_are show = same ∙ ap (λ (xs : List LifeAct). length (reached p word_of s xs).log) (sym show)
shown_behind p word_of [] (step ∷ steps) q s acts same steps_are show = absurd show
shown_behind p word_of (call ∷ calls) [] q s acts same steps_are show = absurd show
shown_behind p word_of (Fetch asks ∷ calls) (step ∷ steps) q s acts same steps_are show =
    let r : LifeBatch = show.3.0 in
    let rest : List LifeAct = show.1 in
    let are : acts ≡ Append r ∷ ShowBatch ∷ rest = show.2 ∙ ap (λ (xs : List LifeAct). xs ++ rest) show.3.2 in
    let behind = subst (λ (xs : List LifeAct). AreShownBy p word_of (reached p word_of s xs) calls steps rest) show.3.2 show.5 in
    let s2 : LifeState = life_step p word_of (life_step p word_of s (Append r)) ShowBatch in
    ap (λ (shape : Shape). (public_behind ring_kind p (ring_next p q shape step.1) steps).shown) steps_are.0
    ∙ shown_behind p word_of calls steps (ring_next p q Fetches step.1) s2 rest (ap suc same ∙ sym (add-one (length s.log)) ∙ sym (length-append s.log (r ∷ []))) steps_are.1 behind
    ∙ ap (λ (xs : List LifeAct). length (reached p word_of s xs).log) (sym are)
shown_behind p word_of (End writes ∷ calls) (step ∷ steps) q s acts same steps_are show =
    let ws = show.3.0 in
    let drawn : ℕ = show.3.1 in
    let slot = show.3.2 in
    let rest : List LifeAct = show.1 in
    let are : acts ≡ ShowLifts ∷ EndAct ws drawn slot ∷ rest = show.2 ∙ ap (λ (xs : List LifeAct). xs ++ rest) show.3.3 in
    let behind = subst (λ (xs : List LifeAct). AreShownBy p word_of (reached p word_of s xs) calls steps rest) show.3.3 show.5 in
    let e2 : LifeState = life_step p word_of (life_step p word_of s ShowLifts) (EndAct ws drawn slot) in
    ap (λ (shape : Shape). (public_behind ring_kind p (ring_next p q shape step.1) steps).shown) steps_are.0
    ∙ shown_behind p word_of calls steps (ring_next p q Ends step.1) e2 rest refl steps_are.1 behind
    ∙ ap (λ (xs : List LifeAct). length (reached p word_of s xs).log) (sym are)

-- these fills are those that the acts show, and all that the epoch's attempts may label
abbrev pub Filled : Params → (WordId → ℕ) → AllFills → LifeState → List LifeAct → Type 0
Filled p word_of f s acts = FillsAll p word_of f (planned_labels p word_of (reached p word_of s acts)) (life_slots p word_of s acts)

-- so it is of the first ones, and of the last
pub filled_first : (p : Params) (word_of : WordId → ℕ) (f : AllFills) (s : LifeState) (xs ys : List LifeAct) → Filled p word_of f s (xs ++ ys) → Filled p word_of f s xs
filled_first p word_of f s xs ys is = record {
  leaves = λ l h. is.leaves l (subst (λ (u : LifeState). Has (planned_labels p word_of u) l) (sym (reached_join p word_of s xs ys)) (planned_lasts p word_of (reached p word_of s xs) ys l h));
  slots_are = λ x h. is.slots_are x (slots_first p word_of s xs ys x h);
}

pub filled_last : (p : Params) (word_of : WordId → ℕ) (f : AllFills) (s : LifeState) (xs ys : List LifeAct) → Filled p word_of f s (xs ++ ys) → Filled p word_of f (reached p word_of s xs) ys
filled_last p word_of f s xs ys is = record {
  leaves = λ l h. is.leaves l (subst (λ (u : LifeState). Has (planned_labels p word_of u) l) (sym (reached_join p word_of s xs ys)) h);
  slots_are = λ x h. is.slots_are x (slots_last p word_of s xs ys x h);
}

-- and without what was found behind them
pub filled_made : (p : Params) (word_of : WordId → ℕ) (f : AllFills) (s : LifeState) (serves made rest acts : List LifeAct) → acts ≡ serves ++ (made ++ rest) → Filled p word_of f s acts → Filled p word_of f s (serves ++ made)
filled_made p word_of f s serves made rest acts are filled = filled_first p word_of f s (serves ++ made) rest (subst (λ (xs : List LifeAct). Filled p word_of f s xs) (are ∙ sym (append_assoc serves made rest)) filled)

module _ {S : Type 0} (disk : S → Disk) (keys : Keys) (p : Params) (word_of : WordId → ℕ) (slot : ℕ → ℕ → ℕ) (f : AllFills) (before : List LifeAct) (ranked : (u : ℕ) → IsRanking (width p) (slot u)) (here : IsLifeFilled p word_of slot f before)
    (most : ℕ) (old : S) (found : RingFound) (opened : S) (calls : List VaultCall) (steps : List (Shape × Fills)) (behind : RingHidden) (refused : Option VaultCall) (words : List ℕ) (seen : List Event) (new : S) where
  abbrev s : LifeState
  s = reached p word_of (formatted_life slot) before

  abbrev began : LifeState
  began = reached p word_of s (opening_acts s)

  abbrev Run : Type 0
  Run = IsRunInLife keys most p word_of s found (disk opened) calls steps behind refused words seen (disk new)

  module _ (stands : StandsInLife keys p word_of s (disk old).cells) (o : IsOpenedInLife p word_of found s) (notes : List Note) (shown : IsServedFront keys p (disk old).cells found calls steps behind refused words notes) where
    abbrev gates : ℕ → Bool
    gates = gates_open ((shown.found_in).found).gates

    abbrev known : ℕ → Bool
    known = gates_open (found.run).gates

    on : IsFurther (life_step p word_of s (Open (suc s.generation))) began (length s.log)
    on = further p word_of (life_step p word_of s (Open (suc s.generation))) (length s.log)

    log_began : length found.records ≡ length began.log
    log_began = sym (ap (λ (log : List LifeBatch). length log) ((o.then).life).log ∙ length-map found.records life_batch)

    log_many : length found.records ≡ length s.log
    log_many = log_began ∙ ap (λ (log : List LifeBatch). length log) on.log

    generation : ((found.run).sealer).generation ≡ suc s.generation
    generation = sym (o.then).generation ∙ on.generation

    opening_is : opening_shows p found.content found.records (found.run).epoch ((found.run).sealer).generation ((shown.found_in).found).gates
        ≡ open_notes p (public_in p word_of s known) (fills_of p found.content found.records) gates (suc s.generation) (length s.log)
    opening_is =
        opening_by p (fills_of p found.content found.records) gates (public_of_kept p found.content [] (found.run).epoch ((shown.found_in).found).gates) (public_in p word_of s known) ((found.run).sealer).generation (suc s.generation) (length found.records) (length s.log)
        (ap (λ (q : Public). q.epoch) o.known ∙ on.epoch) (ap (λ (q : Public). q.homes) o.known ∙ ap (λ (c : LifeContent). c.home) on.content)
        (ap (λ (q : Public). q.counts) o.known ∙ (λ i u. reads p ((on.content) i).table u)) (ap (λ (q : Public). q.counter) o.known ∙ ap (λ (c : LifeContent). (c.table).counter) on.content) generation log_many

    public_is : ring_public p found ≡ public_of_life p word_of began known
    public_is = λ i. record { known = (o.known) i; shown = log_began i }

    -- ---- the gates

    epoch_same : (n : ℕ) → known (gate_cell p EpochTwin n) ≡ gates (gate_cell p EpochTwin n)
    epoch_same n =
        marked (found.run).gates (n % 2) (two_places n) ∙ ap (λ (g : Gates). is_marked g.epoch (n % 2)) ((shown.found_in).goes_on).gates
        ∙ sym (marked ((shown.found_in).found).gates (n % 2) (two_places n))

    durable : known (gate_cell p EpochTwin s.epoch) ≡ true
    durable =
        epoch_same s.epoch ∙ marked ((shown.found_in).found).gates (s.epoch % 2) (two_places s.epoch)
        ∙ open_marked (((shown.found_in).found).gates).epoch (disk old).cells ((shown.found_in).found_in).epoch_gates (s.epoch % 2) (two_places s.epoch)
        (subst (λ (n : ℕ). IsOpen 5 (disk old).cells (n % 2)) stands.epoch ((stands.stands).epoch).open_at)

    pub kept : AreGatesKept p s.epoch gates known
    kept = record { durable = durable; next = epoch_same (s.epoch + 1) }

    -- ---- the refused call's notes

    abbrev q : RingPublic
    q = public_behind ring_kind p (ring_public p found) steps

    abbrev drawn_of : (r : Option VaultCall) → IsFrontShown p q behind r words shown.more → Fills
    drawn_of None is = record { label = λ b i. 0; slot = λ hole. 0 }
    drawn_of (Some call) is = is.0

    notes_refused : (r : Option VaultCall) (is : IsFrontShown p q behind r words shown.more) → shown.more ≡ notes_of_refused p q r (drawn_of r is) (length shown.more)
    notes_refused None is = is
    notes_refused (Some call) is = front_take (ring_notes p q (shape_of call) is.0) shown.more is.2

    abbrev drawn : Fills
    drawn = drawn_of refused shown.front_shown

    pub all_notes : notes ≡ notes_of_run p word_of s (fills_of p found.content found.records) gates known steps ++ notes_of_refused p (public_of_calls p word_of s known steps) refused drawn (length shown.more)
    all_notes =
        shown.notes_are
        ∙ (λ i. (head_notes ++ opening_is i ++ steps_notes ring_kind p (public_is i) steps) ++ (notes_refused refused shown.front_shown ∙ ap (λ (r : RingPublic). notes_of_refused p (public_behind ring_kind p r steps) refused drawn (length shown.more)) public_is) i)

    module _ (run : Run) (m : Map nat_cmp) (is : IsRingMap keys p (disk opened) found m)
        (filled : Filled p word_of f s ((opening_acts s ++ (run.goes).acts) ++ ((run.goes).left m is).made)) where
      abbrev t : LifeState
      t = life_behind_calls p word_of s (run.goes).acts

      left : IsLeftInLife keys most p word_of t behind refused words seen (disk new)
      left = (run.goes).left m is

      -- ---- the fills of a part of its acts

      there : (xs : List LifeAct) → reached p word_of s ((opening_acts s ++ (run.goes).acts) ++ xs) ≡ reached p word_of t xs
      there xs = reached_join p word_of s (opening_acts s ++ (run.goes).acts) xs ∙ ap (λ (u : LifeState). reached p word_of u xs) (reached_join p word_of s (opening_acts s) (run.goes).acts)

      cut_fills : (first tail : List LifeAct) → ((run.goes).left m is).made ≡ first ++ tail → Filled p word_of f t first
      cut_fills first tail split =
          let all : (opening_acts s ++ (run.goes).acts) ++ ((run.goes).left m is).made ≡ (opening_acts s ++ (run.goes).acts) ++ (first ++ tail) = ap (λ (xs : List LifeAct). (opening_acts s ++ (run.goes).acts) ++ xs) split in
          let end : reached p word_of s ((opening_acts s ++ (run.goes).acts) ++ ((run.goes).left m is).made) ≡ reached p word_of (reached p word_of t first) tail =
          ap (λ (xs : List LifeAct). reached p word_of s xs) all ∙ there (first ++ tail) ∙ reached_join p word_of t first tail in
          record {
            leaves = λ l h. filled.leaves l (subst (λ (u : LifeState). Has (planned_labels p word_of u) l) (sym end) (planned_lasts p word_of (reached p word_of t first) tail l h));
            slots_are = λ x h. filled.slots_are x (subst (λ (xs : List LifeAct). Has (life_slots p word_of s xs) x) (sym all)
                (slots_last p word_of s (opening_acts s ++ (run.goes).acts) (first ++ tail) x
                (subst (λ (u : LifeState). Has (life_slots p word_of u (first ++ tail)) x) (sym (reached_join p word_of s (opening_acts s) (run.goes).acts)) (slots_first p word_of t first tail x h))));
          }

      slots_before : (x : SlotFill) → Has (life_slots p word_of s (opening_acts s ++ (run.goes).acts)) x → Has (life_slots p word_of s ((opening_acts s ++ (run.goes).acts) ++ ((run.goes).left m is).made)) x
      slots_before x h = slots_first p word_of s (opening_acts s ++ (run.goes).acts) ((run.goes).left m is).made x h

      calls_are : Sound p word_of began (run.goes).acts
      calls_are = calls_sound p word_of calls steps began (run.goes).acts (o.then).begun (run.goes).shown

      pub run_filled : IsRunFilled p word_of f s (fills_of p found.content found.records) calls steps (run.goes).acts
      run_filled = record {
        begins = o.is_life;
        life = (run.goes).is_life;
        whole = calls_are.whole;
        opening = record { labels = o.labels ∙ ap (λ (n : ℕ). flat_map (λ b. batch_leaves p (fills_of p found.content found.records) b) (below n)) log_many; slots = o.slots };
        opening_slots = record { leaves = λ l h. absurd h; slots_are = λ x h. filled.slots_are x (slots_before x (slots_first p word_of s (opening_acts s) (run.goes).acts x h)) };
        steps_are = shown.steps_are;
        shown = (run.goes).shown;
        fills = record {
          leaves = (cut_fills [] ((run.goes).left m is).made refl).leaves;
          slots_are = λ x h. filled.slots_are x (slots_before x (slots_last p word_of s (opening_acts s) (run.goes).acts x h));
        };
      }

      -- ---- the refused call's fills

      abbrev pub IsAlone : Type 0
      IsAlone = (asks : List (Option ℕ)) → refused ≡ Some (Fetch asks) → ((run.goes).left m is).made ≡ [] → IsRecordAlone p t (Fetch asks) (length shown.more)

      module _ (alone : IsAlone) where
        batch_cut : (asks : List (Option ℕ)) (b : LifeBatch) (c : Fills) → b.asks ≡ asks → ((run.goes).left m is).made ≡ Append b ∷ ShowBatch ∷ [] → AreFilledBy p word_of t ((run.goes).left m is).made (Fetch asks) c → IsCutFilled p word_of f t (Fetch asks) c
        batch_cut asks b c asked made fills =
            let own : AreFilledBy p word_of t (Append b ∷ ShowBatch ∷ []) (Fetch asks) c = subst (λ (xs : List LifeAct). AreFilledBy p word_of t xs (Fetch asks) c) made fills in
            record {
              cut = record { acts = Append b ∷ ShowBatch ∷ []; shows = (b, asked, refl); is_life = subst (λ (xs : List LifeAct). IsLife p word_of t xs) made ((run.goes).left m is).is_life; filled = own };
              whole = (batch_whole p word_of t b asks c ((run.goes).then).begun own, tt);
              fills = cut_fills (Append b ∷ ShowBatch ∷ []) [] made;
            }

        end_cut : (writes : List (ℕ × Option (List ℕ))) (tail : List LifeAct) (c : Fills) → ((run.goes).left m is).made ≡ ShowLifts ∷ tail → AreFilledBy p word_of t ((run.goes).left m is).made (End writes) c → IsCutFilled p word_of f t (End writes) c
        end_cut writes tail c made fills = record {
          cut = record {
            acts = ShowLifts ∷ [];
            shows = refl;
            is_life = (let life = subst (λ (xs : List LifeAct). IsLife p word_of t xs) made ((run.goes).left m is).is_life in (life.0, tt));
            filled = record { labels = refl; slots = λ x h. fills.slots x (subst (λ (xs : List LifeAct). Has (life_slots p word_of t xs) x) (sym made) (slots_first p word_of t (ShowLifts ∷ []) tail x h)) };
          };
          whole = tt;
          fills = cut_fills (ShowLifts ∷ []) tail made;
        }

        none_more : (asks : List (Option ℕ)) (b : LifeBatch) → ((run.goes).left m is).made ≡ Append b ∷ ShowBatch ∷ [] → shown.more ≡ [] → IsRecordAlone p t (Fetch asks) (length shown.more)
        none_more asks b made none =
            let life = subst (λ (xs : List LifeAct). IsLife p word_of t xs) made ((run.goes).left m is).is_life in
            let many : length shown.more ≡ 0 = ap (λ (ns : List Note). length ns) none in
            (life.0.0, omega (arith, many))

        batch_filled : (asks : List (Option ℕ)) (b : LifeBatch) (c : Fills) → b.asks ≡ asks → ((run.goes).left m is).made ≡ Append b ∷ ShowBatch ∷ [] → ((d : Fills) → RingDrawsCut p behind (Fetch asks) d words → AreFilledBy p word_of t ((run.goes).left m is).made (Fetch asks) d)
            → RingDrawsCut p behind (Fetch asks) c words ⊎ (shown.more ≡ []) → IsCutFilled p word_of f t (Fetch asks) c ⊎ IsRecordAlone p t (Fetch asks) (length shown.more)
        batch_filled asks b c asked made fills (inl draws) = inl (batch_cut asks b c asked made (fills c draws))
        batch_filled asks b c asked made fills (inr none) = inr (none_more asks b made none)

        abbrev FillsOf : VaultCall → Type 0
        FillsOf call = (d : Fills) → RingDrawsCut p behind call d words → AreFilledBy p word_of t ((run.goes).left m is).made call d

        abbrev IsShownOf : VaultCall → Type 0
        IsShownOf call = ((AreActsOf call ((run.goes).left m is).made ⊎ AreShowing call ((run.goes).left m is).made) × FillsOf call) ⊎ ((((run.goes).left m is).made ≡ []) × IsBarelySeen most p t call seen)

        batch_by : (asks : List (Option ℕ)) (e : refused ≡ Some (Fetch asks)) (is_shown : IsFrontShown p q behind (Some (Fetch asks)) words shown.more) → IsShownOf (Fetch asks)
            → IsCutFilled p word_of f t (Fetch asks) is_shown.0 ⊎ IsRecordAlone p t (Fetch asks) (length shown.more)
        batch_by asks e is_shown (inl (inl are, fills)) = batch_filled asks are.0 is_shown.0 are.1 are.2 fills is_shown.1
        batch_by asks e is_shown (inl (inr are, fills)) = batch_filled asks are.0 is_shown.0 are.1 are.2 fills is_shown.1
        batch_by asks e is_shown (inr (none, barely)) = inr (alone asks e none)

        end_by : (writes : List (ℕ × Option (List ℕ))) (is_shown : IsFrontShown p q behind (Some (End writes)) words shown.more) → IsShownOf (End writes) → IsCutFilled p word_of f t (End writes) is_shown.0
        end_by writes is_shown (inl (inl are, fills)) = end_cut writes (EndAct are.0 are.1 are.2 ∷ []) is_shown.0 are.3 (fills is_shown.0 is_shown.1)
        end_by writes is_shown (inl (inr are, fills)) = end_cut writes [] is_shown.0 are (fills is_shown.0 is_shown.1)
        end_by writes is_shown (inr (none, barely)) = absurd barely

        pub refused_filled : (r : Option VaultCall) → refused ≡ r → (is_shown : IsFrontShown p q behind r words shown.more) → IsRefusedFilled p word_of f t r (drawn_of r is_shown) (length shown.more)
        refused_filled None e is_shown = ap (λ (ns : List Note). length ns) is_shown
        refused_filled (Some (Fetch asks)) e is_shown = batch_by asks e is_shown (((run.goes).left m is).shown (Fetch asks) e)
        refused_filled (Some (End writes)) e is_shown = inl (end_by writes is_shown (((run.goes).left m is).shown (End writes) e))

        -- the run, whatever the next one finds
        abbrev pub served_run : IsServedRun p word_of f s gates notes
        served_run = record {
          opening = fills_of p found.content found.records;
          gates = known;
          calls = calls;
          steps = steps;
          made = (run.goes).acts;
          refused = refused;
          drawn = drawn;
          count = length shown.more;
          kept = kept;
          filled = run_filled;
          cut = refused_filled refused refl shown.front_shown;
          shown = all_notes;
        }

      module _ (rest acts : List LifeAct) (finds : Finds ((run.goes).left m is).in_flight rest) (acts_are : acts ≡ (opening_acts s ++ (run.goes).acts) ++ (((run.goes).left m is).made ++ rest)) where
        -- what it leaves to be found, with what the next one found of the act in flight
        pub left_so : (alone : IsAlone) (next : Option (ℕ → Bool)) → IsLeftAsShown p word_of f s t gates steps refused ((run.goes).left m is).made acts (length shown.more) next
            → (found_then : ℕ → Bool) → next ≡ Some found_then → IsServedLeft p word_of f s gates notes (served_run alone) acts found_then
        left_so alone next told found_then is_next = record {
          more = ((run.goes).left m is).made ++ rest;
          left = acts_left refused ((run.goes).left m is).made rest ((run.goes).left m is).in_flight ((run.goes).left m is).first finds;
          acts_are = acts_are;
          stays = told.stays found_then is_next;
          as_shown = told.as_shown found_then is_next;
        }

        pub part_is_run : (next : Option (ℕ → Bool)) → IsLeftAsShown p word_of f s t gates steps refused ((run.goes).left m is).made acts (length shown.more) next → IsServedThen p word_of f s gates next notes acts
        part_is_run next told = (served_run told.alone, left_so told.alone next told)

        -- ---- by what its notes tell

        abbrev made : List LifeAct
        made = ((run.goes).left m is).made

        abbrev flies : Option LifeAct
        flies = ((run.goes).left m is).in_flight

        abbrev count : ℕ
        count = length shown.more

        abbrev Noted : (r : Option VaultCall) → IsFrontShown p q behind r words shown.more → Type 0
        Noted r is_shown = IsFrontNoted p q behind r words shown.more is_shown made flies

        abbrev turn : HistoryTurn
        turn = turn_of_run p s gates steps

        at_end : IsTurnOf p turn t
        at_end = (turn_at_end p word_of f s gates calls steps (run.goes).acts ((goes_along p word_of f (let one = p.in_range.some_dummies in omega (arith, one)) (formatted_life slot) before here.life here.ends here.whole (open_formatted p word_of (let one = p.in_range.some_dummies in omega (arith, one)) slot ranked)
            (formatted_goes p word_of f slot) (here.filled).leaves).room) (run.goes).is_life (run.goes).shown).0

        log_shown : q.shown ≡ length t.log
        log_shown = shown_behind p word_of calls steps (ring_public p found) began (run.goes).acts log_began shown.steps_are (run.goes).shown

        row_many : (b : ℕ) → length (record_row p q) ≡ length (record_notes p 0 b)
        row_many b = record_many p (((q.known).epoch + 1) % 2) q.shown ∙ sym (record_many p 0 b)

        whole_by : (r : Option VaultCall) (is_shown : IsFrontShown p q behind r words shown.more) → Noted r is_shown → (asks : List (Option ℕ)) → r ≡ Some (Fetch asks) → length asks ≡ p.places
        whole_by None is_shown noted asks same = absurd (cc same)
        whole_by (Some (Fetch a)) is_shown noted asks same = subst (λ (xs : List (Option ℕ)). length xs ≡ p.places) (same_asks a asks same) (noted.0).1
        whole_by (Some (End ws)) is_shown noted asks same = absurd (no_fetch ws asks same)

        pub whole_of : Noted refused shown.front_shown → (asks : List (Option ℕ)) → refused ≡ Some (Fetch asks) → length asks ≡ p.places
        whole_of noted asks same = whole_by refused shown.front_shown noted asks same

        alone_by : (r : Option VaultCall) (is_shown : IsFrontShown p q behind r words shown.more) → Noted r is_shown → (asks : List (Option ℕ)) → r ≡ Some (Fetch asks) → made ≡ [] → IsRecordAlone p t (Fetch asks) count
        alone_by None is_shown noted asks same none = absurd (cc same)
        alone_by (Some (Fetch a)) is_shown ((room, asked), inl (inl (nothing, idle, short))) asks same none = (let many = row_many (length t.log) in let log = log_shown in (omega (arith, room, log), omega (arith, short, many)))
        alone_by (Some (Fetch a)) is_shown ((room, asked), inl (inr (nothing, one))) asks same none = (let many = row_many (length t.log) in let log = log_shown in (omega (arith, room, log), omega (arith, one, many)))
        alone_by (Some (Fetch a)) is_shown ((room, asked), inr (batch, all)) asks same none = absurd (no_acts (Append batch.0) (ShowBatch ∷ []) (sym none ∙ batch.2))
        alone_by (Some (End ws)) is_shown noted asks same none = absurd (no_fetch ws asks same)

        -- the acts that are found
        there_found : reached p word_of s acts ≡ reached p word_of t (made ++ rest)
        there_found = ap (λ (xs : List LifeAct). reached p word_of s xs) acts_are ∙ there (made ++ rest)

        idle_found : flies ≡ None → (first : List LifeAct) → made ≡ first → reached p word_of s acts ≡ reached p word_of t first
        idle_found idle first is_made =
            let none : rest ≡ [] = nothing_found rest (subst (λ (a : Option LifeAct). Finds a rest) idle finds) in
            there_found ∙ ap (λ (xs : List LifeAct). reached p word_of t xs) (ap (λ (xs : List LifeAct). made ++ xs) none ∙ append-nil made ∙ is_made)

        -- a batch whose acts were made
        batch_found : (asks : List (Option ℕ)) → refused ≡ Some (Fetch asks) → AreActsOf (Fetch asks) made → length (reached p word_of s acts).log ≡ suc (length t.log)
        batch_found asks e batch =
            let first : AreFirstActs (Some (Fetch asks)) made flies = subst (λ (r : Option VaultCall). AreFirstActs r made flies) e ((run.goes).left m is).first in
            go (acts_left (Some (Fetch asks)) made rest flies first finds)
          where
            many : length (made ++ rest) ≡ 2 + length rest
            many = (let all = length-append made rest in let two : length made ≡ 2 = ap (λ (xs : List LifeAct). length xs) batch.2 in omega (arith, all, two))

            go : AreActsLeft (Some (Fetch asks)) (made ++ rest) → length (reached p word_of s acts).log ≡ suc (length t.log)
            go (inl none) = (let few : length (made ++ rest) ≡ 0 = ap (λ (xs : List LifeAct). length xs) none in absurd (omega (arith, many, few)))
            go (inr (r, inl one)) = (let few : length (made ++ rest) ≡ 1 = ap (λ (xs : List LifeAct). length xs) one in absurd (omega (arith, many, few)))
            go (inr (r, inr both)) =
                ap (λ (u : LifeState). length u.log) (there_found ∙ ap (λ (xs : List LifeAct). reached p word_of t xs) both) ∙ length-append t.log (r ∷ []) ∙ add-one (length t.log)

        end_row_many : (writes : List (ℕ × Option (List ℕ))) (c : Fills) → IsCutFilled p word_of f t (End writes) c → length (ring_notes p q Ends c) ≡ length (notes_of_turn p f turn)
        end_row_many writes c cut =
            ap (λ (r : RingPublic). length (ring_notes p (public_behind ring_kind p r steps) Ends c)) public_is
            ∙ rows_many p word_of slot before f ranked here.life here.ends here.whole here.filled (fills_of p found.content found.records) gates known calls steps (run.goes).acts kept run_filled (End writes) c cut

        module _ (next : ℕ → Bool) where
          abbrev Next : RunFound
          Next = found_of_life p (reached p word_of s acts) next

          found_by : (r : Option VaultCall) → refused ≡ r → (is_shown : IsFrontShown p q behind r words shown.more) → Noted r is_shown → IsRefusedFilled p word_of f t r (drawn_of r is_shown) count → AreGatesShown p f turn r count Next → IsFoundAsShown p f turn r count Next
          found_by None e is_shown noted filled_so gated = (ap (λ (ns : List Note). length ns) is_shown, gated)
          found_by (Some (Fetch asks)) e is_shown (room, inl (inl (nothing, idle, short))) filled_so gated =
              let many = row_many turn.batch in
              let log : Next.records ≡ turn.batch = ap (λ (u : LifeState). length u.log) (idle_found idle [] nothing) ∙ sym at_end.batch in
              (λ more. absurd (omega (arith, more, log)), λ all. absurd (omega (arith, all, many, short)), gated)
          found_by (Some (Fetch asks)) e is_shown (room, inl (inr (nothing, one))) filled_so gated =
              let many = row_many turn.batch in
              (λ more. omega (arith, one, many), λ all. absurd (omega (arith, all, many, one)), gated)
          found_by (Some (Fetch asks)) e is_shown (room, inr (batch, whole)) filled_so gated =
              let many = row_many turn.batch in
              let log : Next.records ≡ suc turn.batch = batch_found asks e batch ∙ ap suc (sym at_end.batch) in
              (λ more. omega (arith, whole, many), λ all. log, gated)
          found_by (Some (End writes)) e is_shown noted (inr alone) gated = absurd alone
          found_by (Some (End writes)) e is_shown (lifts, inl (idle, short)) (inl cut) gated =
              let many = end_row_many writes is_shown.0 cut in
              let still : Next.epoch ≡ turn.epoch = ap (λ (u : LifeState). u.epoch) (idle_found idle (ShowLifts ∷ []) lifts) ∙ sym at_end.epoch in
              (λ ended. absurd (omega (arith, ended, still)), λ all. absurd (omega (arith, all, many, short)), gated.1)
          found_by (Some (End writes)) e is_shown (lifts, inr one) (inl cut) gated =
              let many = end_row_many writes is_shown.0 cut in
              (λ ended. (omega (arith, one, many), gated.0 ended), λ all. absurd (omega (arith, all, many, one)), gated.1)

        pub left_as_shown : Noted refused shown.front_shown → (next : Option (ℕ → Bool)) → AreGatesLeft p word_of f s gates steps refused acts count next → IsLeftAsShown p word_of f s t gates steps refused made acts count next
        left_as_shown noted next gated =
            let alone : (asks : List (Option ℕ)) → refused ≡ Some (Fetch asks) → made ≡ [] → IsRecordAlone p t (Fetch asks) count = λ asks same none. alone_by refused shown.front_shown noted asks same none in
            record {
              whole = whole_of noted;
              alone = alone;
              stays = gated.stays;
              as_shown = λ found_then is_next. found_by found_then refused refl shown.front_shown noted (refused_filled alone refused refl shown.front_shown) (gated.shown found_then is_next);
            }

        -- ---- by what the run says of the gates

        room : length s.log ≤ p.batches
        room = (goes_along p word_of f (let one = p.in_range.some_dummies in omega (arith, one)) (formatted_life slot) before here.life here.ends here.whole (open_formatted p word_of (let one = p.in_range.some_dummies in omega (arith, one)) slot ranked)
            (formatted_goes p word_of f slot) (here.filled).leaves).room

        found_epoch : (found.run).epoch ≡ s.epoch
        found_epoch = sym (o.then).epoch ∙ on.epoch

        abbrev turn_first : HistoryTurn
        turn_first = turn_at p f s.epoch (length s.log) (found_of_life p s gates).epoch_gate (length s.log)

        has_first : HasGateOf p turn_first began (ring_public p found)
        has_first = record {
          epoch = sym (o.then).epoch;
          gate = sym kept.next ∙ ap (λ (e : ℕ). known (gate_cell p EpochTwin (e + 1))) (sym found_epoch);
          durable = ap (λ (e : ℕ). known (gate_cell p EpochTwin e)) found_epoch ∙ kept.durable;
        }

        has_gate : HasGateOf p turn t q
        has_gate = subst (λ (u : HistoryTurn). HasGateOf p u t q) (sym (turn_from p f s gates steps room))
            (gates_lead p word_of calls steps (ring_public p found) began turn_first (run.goes).acts (turn_begun p word_of f s (found_of_life p s gates).epoch_gate room) has_first (run.goes).is_life shown.steps_are (run.goes).shown)

        hidden_epoch : behind.epoch ≡ t.epoch
        hidden_epoch = sym ((run.goes).then).epoch

        turn_epoch : turn.epoch ≡ behind.epoch
        turn_epoch = at_end.epoch ∙ sym hidden_epoch

        turn_gate : turn.gate ≡ (q.known).gates (gate_cell p EpochTwin (behind.epoch + 1))
        turn_gate = has_gate.gate ∙ ap (λ (e : ℕ). (q.known).gates (gate_cell p EpochTwin (e + 1))) (has_gate.epoch ∙ sym hidden_epoch)

        -- no act of a call begins a generation, and but for an end's none ends an epoch
        generation_stays : (r : Option VaultCall) (more : List LifeAct) → AreActsLeft r more → (reached p word_of t more).generation ≡ t.generation
        generation_stays None more is = ap (λ (xs : List LifeAct). (reached p word_of t xs).generation) is
        generation_stays (Some (Fetch asks)) more (inl none) = ap (λ (xs : List LifeAct). (reached p word_of t xs).generation) none
        generation_stays (Some (Fetch asks)) more (inr (r, inl one)) = ap (λ (xs : List LifeAct). (reached p word_of t xs).generation) one
        generation_stays (Some (Fetch asks)) more (inr (r, inr both)) = ap (λ (xs : List LifeAct). (reached p word_of t xs).generation) both
        generation_stays (Some (End writes)) more (inl (inl none)) = ap (λ (xs : List LifeAct). (reached p word_of t xs).generation) none
        generation_stays (Some (End writes)) more (inl (inr lifts)) = ap (λ (xs : List LifeAct). (reached p word_of t xs).generation) lifts
        generation_stays (Some (End writes)) more (inr (ws, drawn_by, slots, all)) = ap (λ (xs : List LifeAct). (reached p word_of t xs).generation) all

        fetch_stays : (asks : List (Option ℕ)) (more : List LifeAct) → AreActsLeft (Some (Fetch asks)) more → (reached p word_of t more).epoch ≡ t.epoch
        fetch_stays asks more (inl none) = ap (λ (xs : List LifeAct). (reached p word_of t xs).epoch) none
        fetch_stays asks more (inr (r, inl one)) = ap (λ (xs : List LifeAct). (reached p word_of t xs).epoch) one
        fetch_stays asks more (inr (r, inr both)) = ap (λ (xs : List LifeAct). (reached p word_of t xs).epoch) both

        all_left : (r : Option VaultCall) → refused ≡ r → AreActsLeft r (made ++ rest)
        all_left r e = acts_left r made rest flies (subst (λ (x : Option VaultCall). AreFirstActs x made flies) e ((run.goes).left m is).first) finds

        abbrev GateFound : (r : Option VaultCall) → IsFrontShown p q behind r words shown.more → (ℕ → Bool) → Type 0
        GateFound r is_shown next = IsGateFoundBy behind.epoch ((q.known).gates (gate_cell p EpochTwin (behind.epoch + 1))) r (front_lacking p q behind r words shown.more is_shown) (Next next)

        shown_by : (next : ℕ → Bool) (r : Option VaultCall) → refused ≡ r → (is_shown : IsFrontShown p q behind r words shown.more) → IsRefusedFilled p word_of f t r (drawn_of r is_shown) count → GateFound r is_shown next → AreGatesShown p f turn r count (Next next)
        shown_by next None e is_shown filled_so gated =
            gated (ap (λ (u : LifeState). u.epoch) (there_found ∙ ap (λ (xs : List LifeAct). reached p word_of t xs) (all_left None e)) ∙ sym hidden_epoch) ∙ sym turn_gate
        shown_by next (Some (Fetch asks)) e is_shown filled_so gated =
            gated (ap (λ (u : LifeState). u.epoch) there_found ∙ fetch_stays asks (made ++ rest) (all_left (Some (Fetch asks)) e) ∙ sym hidden_epoch) ∙ sym turn_gate
        shown_by next (Some (End writes)) e is_shown (inr alone) gated = absurd alone
        shown_by next (Some (End writes)) e is_shown (inl cut) gated =
            let many : length (ring_notes p q Ends is_shown.0) - count ≡ length (notes_of_turn p f turn) - count = ap (λ (n : ℕ). n - count) (end_row_many writes is_shown.0 cut) in (
              λ ended. gated.0 (ended ∙ ap suc turn_epoch),
              λ stays. subst (λ (b : Bool). IsGateLeft b (length (notes_of_turn p f turn) - count) (Next next).epoch_gate) (sym turn_gate)
                  (subst (λ (n : ℕ). IsGateLeft ((q.known).gates (gate_cell p EpochTwin (behind.epoch + 1))) n (Next next).epoch_gate) many (gated.1 (stays ∙ turn_epoch))),
            )

        -- the next run begins at such an image
        abbrev pub BeginsAt : (ℕ → Bool) → Type 0
        BeginsAt next = (g : Gates) × (next ≡ gates_open g) × (image : Image) × (disk new).may_leave image × StandsInLife keys p word_of (reached p word_of s acts) image × AreGatesIn g image

        pub gates_left : Noted refused shown.front_shown → LeavesGates keys p q behind refused (front_lacking p q behind refused words shown.more shown.front_shown) (disk new).may_leave
            → (next : Option (ℕ → Bool)) → ((found_then : ℕ → Bool) → next ≡ Some found_then → BeginsAt found_then) → AreGatesLeft p word_of f s gates steps refused acts count next
        gates_left noted leaves next begins =
            let alone : (asks : List (Option ℕ)) → refused ≡ Some (Fetch asks) → made ≡ [] → IsRecordAlone p t (Fetch asks) count = λ asks same none. alone_by refused shown.front_shown noted asks same none in
            let generation_is : (reached p word_of s acts).generation ≡ behind.generation =
            ap (λ (u : LifeState). u.generation) there_found ∙ generation_stays refused (made ++ rest) (all_left refused refl) ∙ ((run.goes).then).generation in
            record {
              stays = λ found_then is_next.
                  let (g, is_g, image, may, stands_then, are) = begins found_then is_next in
                  subst (λ (x : ℕ → Bool). (found_of_life p (reached p word_of s acts) x).generation_gate ≡ true) (sym is_g) ((leaves word_of (reached p word_of s acts) image g may stands_then are).0 generation_is);
              shown = λ found_then is_next.
                  let (g, is_g, image, may, stands_then, are) = begins found_then is_next in
                  subst (λ (x : ℕ → Bool). AreGatesShown p f turn refused count (Next x)) (sym is_g)
                  (shown_by (gates_open g) refused refl shown.front_shown (refused_filled alone refused refl shown.front_shown) (leaves word_of (reached p word_of s acts) image g may stands_then are).1);
            }
