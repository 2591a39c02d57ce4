-- The runs of a ring store, as parts of one life of it.
use Rattle.std.specs.Prelude.{◌≡◌, ◌⊎◌, ℕ, suc, ◌+◌, ◌%◌, ◌<◌, Bool, false, List, [], ◌∷◌, ◌++◌, map, length, Option, Some, None}
use Rattle.std.specs.List.{flat_map}
use Rattle.std.specs.Ordering.{nat_cmp}
use Rattle.ob_base.specs.Repeats.{Has}
use Rattle.ob_base.specs.Tree.{below}
use Rattle.ob_base.specs.declared.fault.Fault.{Fault}
use Rattle.ob_base.specs.declared.params.Params.{Params}
use Rattle.ob_tables.specs.Rank.{IsRanking}
use Rattle.ob_fresh.specs.Drawn.{AllDrawNext, DrawInTurn, WordsKept}
use Rattle.ob_vault.specs.Shapes.{Shape}
use Rattle.ob_vault.specs.KindShown.{AreDrawn}
use Rattle.ob_recover.specs.Calls.{Finds, repeated}
use Rattle.ob_recover.specs.Life.{Append, HolesAreFresh, IsLife, LifeAct, LifeBatch, LifeState, Open, ShowBatch, ShowLifts, SlotFill, WordId, formatted_life, leaf_of_word, life_labels, life_slots, reached}
use Rattle.ob_vault.specs.Acts.{AreBatchesSmall, AreTapeWords, IsBatchSmall, IsMadeAsTold, is_answered}
use Rattle.ob_vault.specs.Hidden.{AreFirst, RingCut, RingCutShown, RingDrawsCut, RingHidden}
use Rattle.ob_vault.specs.RingLaws.{ReadsHead}
use Rattle.ob_vault.specs.RingKind.{IsRingFound, IsRingMap, RingFound, ring_hidden, ring_kind, ring_public}
use Rattle.ob_vault.specs.RingSteps.{HasRingWords, RingAt}
use Rattle.ob_vault.specs.Seen.{RingPublic}
use Rattle.ob_recover.specs.Known.{fills_of, gates_open}
use Rattle.ob_recover.specs.LifePublic.{public_in}
use Rattle.ob_vault.specs.RingVaults.{Running}
use Rattle.ob_schedule.specs.Phases.{phases_of}
use Rattle.ob_schedule.specs.Schedule.{Fills, batch_leaves, record_notes}
use Rattle.ob_seal.specs.declared.keys.Keys.{Keys}
use Rattle.ob_serial.specs.Serial.{Map}
use Rattle.ob_serial.specs.VaultKinds.{Called, Kind}
use Rattle.ob_serial.specs.Vaults.{End, Fetch, VaultAnswer, VaultCall}
use Rattle.ob_stand.specs.Fresh.{fresh_content}
use Rattle.ob_store.specs.Disk.{Disk, Image}
use Rattle.ob_store.specs.Lines.{Trace}
use Rattle.ob_store.specs.declared.event.Event.{Event}
use Rattle.ob_opening.specs.Formats.{drawn_ranks, format_words}
use Rattle.ob_opening.specs.OpeningActs.{AreSlotsIn, IsLeftAt, OpensInLife, StandsInLife}
use Rattle.ob_vault.specs.Shown.{AreActsOf, AreFilledBy, AreShownBy, IsInLife}

-- ---- a format

-- It has drawn a word for each index of each bucket, and no other. Each image stands for the life that begins, whatever words the tapes will
-- give: the slots of a bucket's indexes are the ranks of its words, the buckets in rising number, and no batch is in its log.
pub record RingFormatted (keys : Keys) (p : Params) (drawn : List ℕ) (new : Disk) : Type 0 where
  pub many : length drawn ≡ format_words p
  pub slot : ℕ → ℕ → ℕ
  pub ranked : (u : ℕ) → IsRanking (p.real + p.dummies) (slot u)
  pub of_words : AreSlotsIn p (fresh_content p (drawn_ranks p drawn)) slot
  pub small : AreBatchesSmall (formatted_life slot).log
  pub stands : (word_of : WordId → ℕ) (c : Image) → new.may_leave c → StandsInLife keys p word_of (formatted_life slot) c

-- ---- an opening

-- the next generation, and a repeat of each batch of the log
abbrev pub opening_acts : LifeState → List LifeAct
opening_acts s = Open (suc s.generation) ∷ repeated (length s.log)

-- The life goes on with the opening's acts to where what was found is hidden; what is public of that is what is public of the life there. What
-- these acts show is what filled the opening's holes: each
-- leaf of each record's batch is the low bits of the word that is shown there, and the hole of each slot that is shown is filled by it.
pub record IsOpenedInLife (p : Params) (word_of : WordId → ℕ) (f : RingFound) (s : LifeState) : Type 0 where
  pub is_life : IsLife p word_of s (opening_acts s)
  pub then : IsInLife p word_of (ring_hidden f) (reached p word_of s (opening_acts s))
  pub known : (ring_public p f).known ≡ public_in p word_of (reached p word_of s (opening_acts s)) (gates_open (f.run).gates)
  pub labels : map (λ l. leaf_of_word p word_of l.word) (life_labels p word_of s (opening_acts s)) ≡ flat_map (λ b. batch_leaves p (fills_of p f.content f.records) b) (below (length f.records))
  pub slots : (x : SlotFill) → Has (life_slots p word_of s (opening_acts s)) x → x.slot ≡ (fills_of p f.content f.records).slot (record { bucket = x.bucket; number = x.number })

-- Each life that the cells stood for goes on so.
abbrev pub RingBegins : Keys → Params → Image → RingFound → Type 0
RingBegins keys p image f = (word_of : WordId → ℕ) (s : LifeState) → StandsInLife keys p word_of s image → AreBatchesSmall s.log → IsOpenedInLife p word_of f s

-- One was refused, over a store whose last run may have left an act in flight. Either nothing was settled, and that act still is; or it was
-- found or it wasn't, and of it and of the opening's acts the first were made, and the next may be in flight. The next opening can go on
-- from each image that a crash then leaves.
pub record IsStoppedInLife (keys : Keys) (p : Params) (word_of : WordId → ℕ) (s : LifeState) (pending : Option LifeAct) (new : Disk) : Type 0 where
  pub found : List LifeAct
  pub finds : Finds pending found
  pub made : List LifeAct
  pub in_flight : Option LifeAct
  pub part : ((made ≡ []) × (in_flight ≡ pending))
      ⊎ ((rest : List LifeAct) × (found ++ opening_acts (reached p word_of s found) ≡ made ++ rest) × ((in_flight ≡ None) ⊎ ((a : LifeAct) × (more : List LifeAct) × (in_flight ≡ Some a) × (rest ≡ a ∷ more))))
  pub is_life : IsLife p word_of s made
  pub images : (c : Image) → new.may_leave c → IsLeftAt keys p word_of (reached p word_of s made) in_flight c

-- So it is for each life that was left so in the cells, and in each image that a crash might have left: whether writes waited there or not.
abbrev pub RingStops : Keys → Params → (old new : Disk) → Type 0
RingStops keys p old new = (word_of : WordId → ℕ) (s : LifeState) (pending : Option LifeAct) → IsLeftAt keys p word_of s pending old.cells → ((c : Image) → old.may_leave c → IsLeftAt keys p word_of s pending c)
    → IsStoppedInLife keys p word_of s pending new

-- ---- what is left

-- Of a call that was refused the first acts were made, and the next may be in flight. Without such a call there are none.
abbrev pub AreFirstActs : Option VaultCall → (made : List LifeAct) → (in_flight : Option LifeAct) → Type 0
AreFirstActs None made in_flight = (made ≡ []) × (in_flight ≡ None)
AreFirstActs (Some call) made in_flight = (rest : List LifeAct) × AreActsOf call (made ++ rest) × ((in_flight ≡ None) ⊎ ((a : LifeAct) × (more : List LifeAct) × (in_flight ≡ Some a) × (rest ≡ a ∷ more)))

-- the acts in which a call that was refused shows: a batch with these keys once its record is in the log, or the lifts
abbrev pub AreShowing : VaultCall → List LifeAct → Type 0
AreShowing (Fetch asks) acts = (b : LifeBatch) × (b.asks ≡ asks) × (acts ≡ Append b ∷ ShowBatch ∷ [])
AreShowing (End writes) acts = acts ≡ ShowLifts ∷ []

-- it is a batch of which no more was seen than the first steps of its record
abbrev pub IsBarelySeen : (most : ℕ) → Params → LifeState → VaultCall → (seen : List Event) → Type 0
IsBarelySeen most p s (Fetch asks) seen = AreFirst most (phases_of (record_notes p ((s.epoch + 1) % 2) (length s.log))) seen
IsBarelySeen most p s (End writes) seen = ⊥

-- What this call shows was made, and the acts fill its holes as it draws them from what is hidden; or none was made, and it was barely seen.
abbrev pub IsShownInLife : (most : ℕ) → (p : Params) → (word_of : WordId → ℕ) → LifeState → RingHidden → VaultCall → (words : List ℕ) → (seen : List Event) → (made : List LifeAct) → Type 0
IsShownInLife most p word_of s h call words seen made = ((AreActsOf call made ⊎ AreShowing call made) × ((f : Fills) → RingDrawsCut p h call f words → AreFilledBy p word_of s made call f))
    ⊎ ((made ≡ []) × IsBarelySeen most p s call seen)

-- An opening can go on from each image that a crash then leaves: the life is behind the acts that were made, or behind the one in flight too.
-- What was seen of a call that was refused, from what is hidden, is what the acts show that were made.
pub record IsLeftInLife (keys : Keys) (most : ℕ) (p : Params) (word_of : WordId → ℕ) (s : LifeState) (behind : RingHidden) (refused : Option VaultCall) (words : List ℕ) (seen : List Event) (new : Disk) : Type 0 where
  pub made : List LifeAct
  pub in_flight : Option LifeAct
  pub first : AreFirstActs refused made in_flight
  pub shown : (call : VaultCall) → refused ≡ Some call → IsShownInLife most p word_of s behind call words seen made
  pub is_life : IsLife p word_of s made
  pub images : (c : Image) → new.may_leave c → IsLeftAt keys p word_of (reached p word_of s made) in_flight c
  pub small : AreBatchesSmall (reached p word_of s made).log × ((b : LifeBatch) → in_flight ≡ Some (Append b) → IsBatchSmall b)

-- ---- a call that was refused

-- The life may go on with the acts in which it would show, and these fill the call's holes as they show them.
pub record IsCutInLife (p : Params) (word_of : WordId → ℕ) (s : LifeState) (call : VaultCall) (f : Fills) : Type 0 where
  pub acts : List LifeAct
  pub shows : AreShowing call acts
  pub is_life : IsLife p word_of s acts
  pub filled : AreFilledBy p word_of s acts call f

-- ---- the calls of a run

-- The calls are the life's: each makes some of its acts and is filled by what they show. From a format on the whole life is fresh: no word is
-- shown in two holes, no slot of a bucket's filling either, and a hole that is shown again is filled as before. A call that was refused
-- fills its holes so too. Where a map was found the store is left where the life is.
pub record GoesOnInLife (keys : Keys) (most : ℕ) (p : Params) (word_of : WordId → ℕ) (s : LifeState) (f : RingFound) (opened : Disk) (calls : List VaultCall) (steps : List (Shape × Fills))
    (behind : RingHidden) (refused : Option VaultCall) (words : List ℕ) (seen : List Event) (new : Disk) : Type 0 where
  pub acts : List LifeAct
  pub is_life : IsLife p word_of s acts
  pub then : IsInLife p word_of behind (reached p word_of s acts)
  pub shown : AreShownBy p word_of s calls steps acts
  pub fresh : (slot : ℕ → ℕ → ℕ) (before : List LifeAct) → 0 < p.dummies → ((u : ℕ) → IsRanking (p.real + p.dummies) (slot u)) → IsLife p word_of (formatted_life slot) before → reached p word_of (formatted_life slot) before ≡ s
      → HolesAreFresh (life_labels p word_of (formatted_life slot) (before ++ acts)) (life_slots p word_of (formatted_life slot) (before ++ acts))
  pub cut : (call : VaultCall) (c : Fills) → refused ≡ Some call → RingDrawsCut p behind call c words → IsCutInLife p word_of (reached p word_of s acts) call c
  pub left : (m : Map nat_cmp) → IsRingMap keys p opened f m → IsLeftInLife keys most p word_of (reached p word_of s acts) behind refused words seen new
  -- their words are drawn in turn, those of the call that was refused too
  pub turn : (k : WordsKept) → k.drawn ≡ s.drawn → AllDrawNext p word_of s k acts
  pub turn_left : (m : Map nat_cmp) (is : IsRingMap keys p opened f m) (k : WordsKept) → k.drawn ≡ (reached p word_of s acts).drawn → DrawInTurn p word_of (reached p word_of s acts) k (left m is).made (left m is).in_flight

-- From each life that is where what was found is hidden, if the tape gave its words of the generation begun.
abbrev pub RingGoesOn : Keys → (most : ℕ) → Params → RingFound → (opened : Disk) → List VaultCall → List (Shape × Fills) → (behind : RingHidden) → Option VaultCall → (words : List ℕ) → (seen : List Event) → (new : Disk) → Type 0
RingGoesOn keys most p f opened calls steps behind refused words seen new = (word_of : WordId → ℕ) (s : LifeState) → IsInLife p word_of (ring_hidden f) s → AreTapeWords word_of (ring_hidden f).generation words
    → GoesOnInLife keys most p word_of s f opened calls steps behind refused words seen new

-- ---- the laws

-- What an opening found goes on with the lives that the cells stood for.
abbrev pub OpeningsGoOn : Type 0
OpeningsGoOn = (keys : Keys) (p : Params) (image : Image) (f : RingFound) → IsRingFound keys p image f → RingBegins keys p image f

-- The acts of an opening that was refused, behind the head's read, are made of that life.
abbrev pub OpeningsStop : {S : Type 0} → (S → Disk) → Type 0
OpeningsStop {S} disk = (keys : Keys) (most : ℕ) (p : Params) (old mid new : S) (before after : Trace) (answered : Bool) → ReadsHead (disk old) (disk mid)
    → ((word_of : WordId → ℕ) (s : LifeState) (pending : Option LifeAct) → (disk mid).tells → IsLeftAt keys p word_of s pending (disk mid).cells → OpensInLife keys most p word_of s pending (disk mid) (disk new) before after answered)
    → (disk old).tells → RingStops keys p (disk old) (disk new)

-- Calls that were answered, and one that was refused behind them, of which this was seen and shown, go on from what was found.
abbrev pub RunsGoOn : {V S : Type 0} → Kind V → (S → Disk) → Type 0
RunsGoOn {V} {S} k disk = (runs : V → Running S) → HasRingWords k disk runs → (keys : Keys) (most : ℕ) (p : Params) (f : RingFound) (first : V) (calls : List VaultCall) (steps : List (Shape × Fills)) (q : RingPublic) (h : RingHidden) (n : ℕ) (v : V)
    → AreDrawn ring_kind p (ring_hidden f) calls steps h → RingAt k disk runs keys most p f (disk (runs first).store) q h n v
    → ((seen : List Event) → RingGoesOn keys most p f (disk (runs first).store) calls steps h None (runs v).drawn seen (disk (runs v).store))
    × ((call : VaultCall) (answer : VaultAnswer) (w : V) (one : Called k v call answer w) (c : Fills) (refused : Fault) (seen : List Event) → RingCut most p q h call c (runs w).drawn refused seen → RingCutShown most p q call c refused seen one.notes
    → RingGoesOn keys most p f (disk (runs first).store) calls steps h (Some call) (runs w).drawn seen (disk (runs w).store))

-- Behind one that was refused the acts that are left of it are as its notes tell.
abbrev pub RunsGoOnAsTold : {V S : Type 0} → Kind V → (S → Disk) → Type 0
RunsGoOnAsTold {V} {S} k disk = (runs : V → Running S) → HasRingWords k disk runs → (keys : Keys) (most : ℕ) (p : Params) (f : RingFound) (first : V) (calls : List VaultCall) (steps : List (Shape × Fills)) (q : RingPublic) (h : RingHidden) (n : ℕ) (v : V)
    → AreDrawn ring_kind p (ring_hidden f) calls steps h → RingAt k disk runs keys most p f (disk (runs first).store) q h n v
    → (call : VaultCall) (answer : VaultAnswer) (w : V) (one : Called k v call answer w) → is_answered answer ≡ false → (c : Fills) (refused : Fault) (seen : List Event) → RingCut most p q h call c (runs w).drawn refused seen → RingCutShown most p q call c refused seen one.notes
    → (goes : RingGoesOn keys most p f (disk (runs first).store) calls steps h (Some call) (runs w).drawn seen (disk (runs w).store))
    × ((word_of : WordId → ℕ) (s : LifeState) (here : IsInLife p word_of (ring_hidden f) s) (tape : AreTapeWords word_of (ring_hidden f).generation (runs w).drawn) (m : Map nat_cmp) (is : IsRingMap keys p (disk (runs first).store) f m)
    → IsMadeAsTold disk word_of (runs v) (runs w) one.notes call ((goes word_of s here tape).left m is).made ((goes word_of s here tape).left m is).in_flight)

-- Behind these acts and those that were made of a refused call, and what is found of the act that was in flight, the life is where this image
-- stands, so that the next run begins there.
pub record IsNextInLife (keys : Keys) (p : Params) (word_of : WordId → ℕ) (s : LifeState) (acts made : List LifeAct) (in_flight : Option LifeAct) (image : Image) : Type 0 where
  pub more : List LifeAct
  pub found : List LifeAct
  pub begins : more ≡ made ++ found
  pub finds : Finds in_flight found
  pub is_life : IsLife p word_of s (acts ++ more)
  pub stands : StandsInLife keys p word_of (reached p word_of s (acts ++ more)) image
  pub small : AreBatchesSmall (reached p word_of s (acts ++ more)).log
  pub turn : (k : WordsKept) → AllDrawNext p word_of s k (acts ++ more)

-- A whole run: the opening's acts, and behind them those of the vault's calls. What is public of what the opening found is what is public of
-- the life that the runs before it made, behind the opening's acts. Where a map was found the next run goes on behind them, from any image
-- that a crash then leaves.
pub record IsRunInLife (keys : Keys) (most : ℕ) (p : Params) (word_of : WordId → ℕ) (s : LifeState) (f : RingFound) (opened : Disk) (calls : List VaultCall) (steps : List (Shape × Fills))
    (behind : RingHidden) (refused : Option VaultCall) (words : List ℕ) (seen : List Event) (new : Disk) : Type 0 where
  pub known : (ring_public p f).known ≡ public_in p word_of (reached p word_of s (opening_acts s)) (gates_open (f.run).gates)
  pub goes : GoesOnInLife keys most p word_of (reached p word_of s (opening_acts s)) f opened calls steps behind refused words seen new
  pub is_life : IsLife p word_of s (opening_acts s ++ goes.acts)
  pub leads : reached p word_of s (opening_acts s ++ goes.acts) ≡ reached p word_of (reached p word_of s (opening_acts s)) goes.acts
  pub fresh : (slot : ℕ → ℕ → ℕ) (before : List LifeAct) → 0 < p.dummies → ((u : ℕ) → IsRanking (p.real + p.dummies) (slot u)) → IsLife p word_of (formatted_life slot) before → reached p word_of (formatted_life slot) before ≡ s
      → HolesAreFresh (life_labels p word_of (formatted_life slot) (before ++ (opening_acts s ++ goes.acts))) (life_slots p word_of (formatted_life slot) (before ++ (opening_acts s ++ goes.acts)))
  pub next : (m : Map nat_cmp) (is : IsRingMap keys p opened f m) (c : Image) → new.may_leave c → IsNextInLife keys p word_of s (opening_acts s ++ goes.acts) (goes.left m is).made (goes.left m is).in_flight c
  -- whatever words were kept before, those of the run are drawn in turn
  pub turn : (k : WordsKept) → AllDrawNext p word_of s k (opening_acts s ++ goes.acts)
  pub turn_left : (m : Map nat_cmp) (is : IsRingMap keys p opened f m) (k : WordsKept) → AllDrawNext p word_of s k ((opening_acts s ++ goes.acts) ++ (goes.left m is).made)
  -- with the act in flight too
  pub turn_flown : (m : Map nat_cmp) (is : IsRingMap keys p opened f m) (a : LifeAct) → (goes.left m is).in_flight ≡ Some a → (k : WordsKept) → AllDrawNext p word_of s k ((opening_acts s ++ goes.acts) ++ ((goes.left m is).made ++ a ∷ []))

-- What an opening begins with, and what then goes on, are one: over a store that stood for a life the whole run is a part of that, and all
-- that was ever shown of it is fresh.
abbrev pub RunsAreLives : {S : Type 0} → (S → Disk) → Type 0
RunsAreLives {S} disk = (keys : Keys) (most : ℕ) (p : Params) (image : Image) (f : RingFound) (opened new : S) (calls : List VaultCall) (steps : List (Shape × Fills)) (behind : RingHidden) (refused : Option VaultCall) (words : List ℕ) (seen : List Event)
    → RingBegins keys p image f → RingGoesOn keys most p f (disk opened) calls steps behind refused words seen (disk new) → (word_of : WordId → ℕ) (s : LifeState) → StandsInLife keys p word_of s image → AreBatchesSmall s.log → AreTapeWords word_of (ring_hidden f).generation words
    → IsRunInLife keys most p word_of s f (disk opened) calls steps behind refused words seen (disk new)

-- And a format that drew a word for each index of each bucket begins one.
abbrev pub FormatsBegin : {S : Type 0} → (S → Disk) → Type 0
FormatsBegin {S} disk = (keys : Keys) (p : Params) (drawn : List ℕ) (new : S) → length drawn ≡ format_words p
    → ((word_of : WordId → ℕ) (slot : ℕ → ℕ → ℕ) (c : Image) → AreSlotsIn p (fresh_content p (drawn_ranks p drawn)) slot → (disk new).may_leave c → StandsInLife keys p word_of (formatted_life slot) c) → RingFormatted keys p drawn (disk new)
