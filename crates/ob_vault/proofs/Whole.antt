-- A whole run is a part of a life.
use Rattle.std.specs.Prelude.{◌≡◌, ℕ, zero, suc, List, [], ◌∷◌, ◌++◌, length, Option, Some}
use Rattle.std.proofs.Common.{refl, sym, ap, subst, ◌∙◌, inl, inr, ⊎_elim}
use Rattle.std.proofs.lemmas.List.{append-nil}
use Rattle.ob_base.proofs.Repeats.{has_push}
use Rattle.ob_base.specs.Repeats.{Has}
use Rattle.ob_base.specs.declared.params.Params.{Params}
use Rattle.ob_vault.specs.Shapes.{Shape}
use Rattle.ob_fresh.proofs.Turns.{drawn_same, kept_on, next_on}
use Rattle.ob_fresh.specs.Drawn.{AllDrawNext, DrawInTurn, WordsKept, words_behind}
use Rattle.ob_recover.proofs.FreshLaws.{lives_are_fresh}
use Rattle.ob_recover.proofs.Pads.{life_goes_on}
use Rattle.ob_recover.specs.Calls.{Finds, repeated}
use Rattle.ob_recover.specs.Life.{Append, End, IsLife, LifeAct, LifeBatch, LifeState, Open, ShowBatch, ShowLifts, WordId, formatted_life, life_step, reached}
use Rattle.ob_vault.specs.Acts.{AreBatchesSmall, AreTapeWords, IsBatchSmall}
use Rattle.ob_vault.specs.Hidden.{RingHidden}
use Rattle.ob_vault.specs.RingKind.{RingFound, ring_hidden}
use Rattle.ob_schedule.specs.Schedule.{Fills}
use Rattle.ob_seal.specs.declared.keys.Keys.{Keys}
use Rattle.ob_serial.specs.Vaults.{VaultCall}
use Rattle.ob_store.specs.Disk.{Disk, Image}
use Rattle.ob_store.specs.declared.event.Event.{Event}
use Rattle.ob_opening.specs.OpeningActs.{IsLeftAt, StandsInLife}
use Rattle.ob_vault.specs.Lives.{GoesOnInLife, IsLeftInLife, IsNextInLife, IsOpenedInLife, IsRunInLife, RingBegins, RingGoesOn, opening_acts}

pub reached_join : (p : Params) (word_of : WordId → ℕ) (s : LifeState) (xs ys : List LifeAct) → reached p word_of s (xs ++ ys) ≡ reached p word_of (reached p word_of s xs) ys
reached_join p word_of s [] ys = refl
reached_join p word_of s (x ∷ xs) ys = reached_join p word_of (life_step p word_of s x) xs ys

-- the log's batches stay small
pub small_step : (p : Params) (word_of : WordId → ℕ) (t : LifeState) (a : LifeAct) → AreBatchesSmall t.log → ((b : LifeBatch) → Some a ≡ Some (Append b) → IsBatchSmall b) → AreBatchesSmall (life_step p word_of t a).log
small_step p word_of t (Open g) small own = small
small_step p word_of t (Append r) small own = λ b has. ⊎_elim (λ (was : Has t.log b). small b was) (λ (is : r ≡ b). subst IsBatchSmall is (own r refl)) (has_push t.log r b has)
small_step p word_of t ShowBatch small own = small
small_step p word_of t ShowLifts small own = small
small_step p word_of t (End ws drawn slot) small own = λ b none. absurd none

-- repeats draw no word
pub repeats_next : (p : Params) (word_of : WordId → ℕ) (t : LifeState) (k : WordsKept) (n : ℕ) → AllDrawNext p word_of t k (repeated n)
repeats_next p word_of t k zero = tt
repeats_next p word_of t k (suc n) = (tt, repeats_next p word_of (life_step p word_of t ShowBatch) k n)

module _ (keys : Keys) (p : Params) (word_of : WordId → ℕ) (s : LifeState) (acts : List LifeAct) (life : IsLife p word_of s acts) where
  module _ (t : LifeState) (leads : reached p word_of s acts ≡ t) where
    -- behind these acts and some more
    behind_more : (made found more : List LifeAct) (in_flight : Option LifeAct) (c : Image) → more ≡ made ++ found → Finds in_flight found → IsLife p word_of t more → ((k : WordsKept) → AllDrawNext p word_of s k (acts ++ more)) → StandsInLife keys p word_of (reached p word_of t more) c → AreBatchesSmall (reached p word_of t more).log → IsNextInLife keys p word_of s acts made in_flight c
    behind_more made found more in_flight c is finds on turn stands small =
        let there : reached p word_of s (acts ++ more) ≡ reached p word_of t more = reached_join p word_of s acts more ∙ ap (λ (u : LifeState). reached p word_of u more) leads in
        record {
          more = more;
          found = found;
          begins = is;
          finds = finds;
          is_life = life_goes_on p word_of s acts more life (subst (λ (u : LifeState). IsLife p word_of u more) (sym leads) on);
          stands = subst (λ (u : LifeState). StandsInLife keys p word_of u c) (sym there) stands;
          small = subst (λ (u : LifeState). AreBatchesSmall u.log) (sym there) small;
          turn = turn;
        }

    -- with a refused call's acts, and the one in flight
    pub made_turn : (made : List LifeAct) (in_flight : Option LifeAct) → ((k : WordsKept) → AllDrawNext p word_of s k acts) → ((k : WordsKept) → DrawInTurn p word_of t (words_behind p word_of s k acts) made in_flight) → (k : WordsKept) → AllDrawNext p word_of s k (acts ++ made)
    made_turn made in_flight turn left k = next_on p word_of s k acts made (turn k) (subst (λ (u : LifeState). AllDrawNext p word_of u (words_behind p word_of s k acts) made) (sym leads) (left k).made_next)

    pub flown_turn : (made : List LifeAct) (in_flight : Option LifeAct) (a : LifeAct) → in_flight ≡ Some a → ((k : WordsKept) → AllDrawNext p word_of s k acts) → ((k : WordsKept) → DrawInTurn p word_of t (words_behind p word_of s k acts) made in_flight)
        → (k : WordsKept) → AllDrawNext p word_of s k (acts ++ (made ++ a ∷ []))
    flown_turn made in_flight a flies turn left k =
        next_on p word_of s k acts (made ++ a ∷ []) (turn k)
        (subst (λ (u : LifeState). AllDrawNext p word_of u (words_behind p word_of s k acts) (made ++ a ∷ [])) (sym leads)
        (next_on p word_of t (words_behind p word_of s k acts) made (a ∷ []) (left k).made_next ((left k).flying_next a flies, tt)))

    pub next_of : (most : ℕ) (behind : RingHidden) (refused : Option VaultCall) (words : List ℕ) (seen : List Event) (new : Disk) (l : IsLeftInLife keys most p word_of t behind refused words seen new)
        → ((k : WordsKept) → AllDrawNext p word_of s k acts) → ((k : WordsKept) → DrawInTurn p word_of t (words_behind p word_of s k acts) l.made l.in_flight) → (c : Image) → new.may_leave c → IsNextInLife keys p word_of s acts l.made l.in_flight c
    next_of most behind refused words seen new l turn turn_left c left =
        let at : IsLeftAt keys p word_of (reached p word_of t l.made) l.in_flight c = l.images c left in
        ⊎_elim
        (λ (stands : StandsInLife keys p word_of (reached p word_of t l.made) c). behind_more l.made [] l.made l.in_flight c (sym (append-nil l.made)) (inl refl) l.is_life (made_turn l.made l.in_flight turn turn_left) stands (l.small).0)
        (λ (one : (a : LifeAct) × (l.in_flight ≡ Some a) × StandsInLife keys p word_of (life_step p word_of (reached p word_of t l.made) a) c).
        behind_more l.made (one.0 ∷ []) (l.made ++ one.0 ∷ []) l.in_flight c refl (inr (one.0, one.1, refl)) (life_goes_on p word_of t l.made (one.0 ∷ []) l.is_life (at.allowed one.0 one.1, tt)) (flown_turn l.made l.in_flight one.0 one.1 turn turn_left)
        (subst (λ (u : LifeState). StandsInLife keys p word_of u c) (sym (reached_join p word_of t l.made (one.0 ∷ []))) one.2)
        (subst (λ (u : LifeState). AreBatchesSmall u.log) (sym (reached_join p word_of t l.made (one.0 ∷ []))) (small_step p word_of (reached p word_of t l.made) one.0 (l.small).0 (λ b e. (l.small).1 b (one.1 ∙ e)))))
        (at.stands c refl)

pub whole_run : (keys : Keys) (most : ℕ) (p : Params) (image : Image) (f : RingFound) (opened new : Disk) (calls : List VaultCall) (steps : List (Shape × Fills)) (behind : RingHidden) (refused : Option VaultCall) (words : List ℕ) (seen : List Event)
    → RingBegins keys p image f → RingGoesOn keys most p f opened calls steps behind refused words seen new → (word_of : WordId → ℕ) (s : LifeState) → StandsInLife keys p word_of s image → AreBatchesSmall s.log → AreTapeWords word_of (ring_hidden f).generation words
    → IsRunInLife keys most p word_of s f opened calls steps behind refused words seen new
whole_run keys most p image f opened new calls steps behind refused words seen begins goes_on word_of s here small tape =
    let o : IsOpenedInLife p word_of f s = begins word_of s here small in
    let g : GoesOnInLife keys most p word_of (reached p word_of s (opening_acts s)) f opened calls steps behind refused words seen new = goes_on word_of (reached p word_of s (opening_acts s)) o.then tape in
    let none : (k : WordsKept) → (words_behind p word_of s k (opening_acts s)).drawn ≡ (reached p word_of s (opening_acts s)).drawn =
    λ k. drawn_same p word_of (life_step p word_of s (Open (suc s.generation))) (record k { drawn = 0 }) (repeated (length s.log)) (repeats_next p word_of _ _ (length s.log)) refl in
    let turn : (k : WordsKept) → AllDrawNext p word_of s k (opening_acts s ++ g.acts) =
    λ k. next_on p word_of s k (opening_acts s) g.acts (tt, repeats_next p word_of _ _ (length s.log)) (g.turn (words_behind p word_of s k (opening_acts s)) (none k)) in
    let behind_all : (k : WordsKept) → (words_behind p word_of s k (opening_acts s ++ g.acts)).drawn ≡ (reached p word_of (reached p word_of s (opening_acts s)) g.acts).drawn =
    λ k. ap (λ (x : WordsKept). x.drawn) (kept_on p word_of s k (opening_acts s) g.acts)
    ∙ drawn_same p word_of (reached p word_of s (opening_acts s)) (words_behind p word_of s k (opening_acts s)) g.acts (g.turn (words_behind p word_of s k (opening_acts s)) (none k)) (none k) in
    let whole : IsLife p word_of s (opening_acts s ++ g.acts) = life_goes_on p word_of s (opening_acts s) g.acts o.is_life g.is_life in
    record {
      known = o.known;
      goes = g;
      is_life = whole;
      leads = reached_join p word_of s (opening_acts s) g.acts;
      fresh = λ slot before some ranked life at. lives_are_fresh p word_of slot (before ++ (opening_acts s ++ g.acts)) some ranked
          (life_goes_on p word_of (formatted_life slot) before (opening_acts s ++ g.acts) life (subst (λ (t : LifeState). IsLife p word_of t (opening_acts s ++ g.acts)) (sym at) whole));
      next = λ m is c left. next_of keys p word_of s (opening_acts s ++ g.acts) whole (reached p word_of (reached p word_of s (opening_acts s)) g.acts) (reached_join p word_of s (opening_acts s) g.acts) most behind refused words seen new (g.left m is) turn (λ k. g.turn_left m is (words_behind p word_of s k (opening_acts s ++ g.acts)) (behind_all k)) c left;
      turn = turn;
      turn_left = λ m is. made_turn keys p word_of s (opening_acts s ++ g.acts) whole (reached p word_of (reached p word_of s (opening_acts s)) g.acts) (reached_join p word_of s (opening_acts s) g.acts) (g.left m is).made (g.left m is).in_flight turn
          (λ k. g.turn_left m is (words_behind p word_of s k (opening_acts s ++ g.acts)) (behind_all k));
      turn_flown = λ m is a flies. flown_turn keys p word_of s (opening_acts s ++ g.acts) whole (reached p word_of (reached p word_of s (opening_acts s)) g.acts) (reached_join p word_of s (opening_acts s) g.acts) (g.left m is).made (g.left m is).in_flight a flies turn
          (λ k. g.turn_left m is (words_behind p word_of s k (opening_acts s ++ g.acts)) (behind_all k));
    }

-- which goes on as that says
pub whole_goes : (keys : Keys) (most : ℕ) (p : Params) (image : Image) (f : RingFound) (opened new : Disk) (calls : List VaultCall) (steps : List (Shape × Fills)) (behind : RingHidden) (refused : Option VaultCall) (words : List ℕ) (seen : List Event)
    (begins : RingBegins keys p image f) (goes_on : RingGoesOn keys most p f opened calls steps behind refused words seen new) (word_of : WordId → ℕ) (s : LifeState) (here : StandsInLife keys p word_of s image) (small : AreBatchesSmall s.log) (tape : AreTapeWords word_of (ring_hidden f).generation words)
    → (whole_run keys most p image f opened new calls steps behind refused words seen begins goes_on word_of s here small tape).goes ≡ goes_on word_of (reached p word_of s (opening_acts s)) (begins word_of s here small).then tape
unfolding whole_run
whole_goes keys most p image f opened new calls steps behind refused words seen begins goes_on word_of s here small tape = refl
