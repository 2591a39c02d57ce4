-- Runs over a store, one behind the other, are one life.
use Rattle.std.specs.Prelude.{◌≡◌, ◌⊎◌, ◌<◌, ◌≤◌, ℕ, zero, suc, List, [], ◌∷◌, ◌++◌, length, Option, None, Some}
use Rattle.std.proofs.Common.{arith, refl, sym, ap, subst, ◌∙◌, inl, inr, ⊎_elim, append_assoc}
use Rattle.std.proofs.lemmas.List.{append-nil}
use Rattle.ob_base.specs.declared.params.Params.{Params}
use Rattle.ob_recover.proofs.FreshLaws.{lives_are_fresh}
use Rattle.ob_recover.proofs.Pads.{life_goes_on}
use Rattle.ob_recover.specs.Calls.{Finds, repeated}
use Rattle.ob_recover.specs.Life.{Append, End, IsActAllowed, IsLife, LifeAct, LifeBatch, LifeState, Open, ShowBatch, ShowLifts, WordId, formatted_life, life_step, reached}
use Rattle.ob_fresh.proofs.NoneTwice.{no_word_twice}
use Rattle.ob_fresh.proofs.Turns.{next_on}
use Rattle.ob_fresh.specs.Drawn.{AllDrawNext, AreWordsInTurn, WordsKept, formatted_words, words_behind}
use Rattle.ob_vault.proofs.VersionWords.{format_ranked}
use Rattle.ob_vault.specs.Acts.{AreBatchesSmall, AreTapeWords, IsBatchSmall}
use Rattle.ob_schedule.specs.Schedule.{Fills}
use Rattle.ob_seal.specs.declared.keys.Keys.{Keys}
use Rattle.ob_serial.specs.Vaults.{VaultCall}
use Rattle.ob_store.specs.Disk.{Disk, Image}
use Rattle.ob_store.specs.declared.event.Event.{Event}
use Rattle.ob_opening.specs.OpeningActs.{IsLeftAt, StandsInLife}
use Rattle.ob_vault.proofs.Fetching.{none_pending, same_act}
use Rattle.ob_vault.proofs.Whole.{reached_join, small_step, whole_run}
use Rattle.ob_vault.specs.Hidden.{RingHidden}
use Rattle.ob_vault.specs.Joined.{AreGiven, AreParts, AreRunsFrom, IsPart, IsRunTold, RunPart, RunsAreOneLife, Served, Stopped, left_at}
use Rattle.ob_vault.specs.Lives.{IsRunInLife, IsStoppedInLife, opening_acts}
use Rattle.ob_vault.specs.RingKind.{RingFound, ring_hidden}
use Rattle.ob_vault.specs.Shapes.{Shape}

-- ---- an opening's acts leave the log

none_cons : {A : Type 0} (x : A) (xs : List A) → x ∷ xs ≡ [] → ⊥
none_cons x xs e = cc e

same_head : {A : Type 0} (x y : A) (xs ys : List A) → x ∷ xs ≡ y ∷ ys → x ≡ y
same_head x y xs ys e = cc e

same_tail : {A : Type 0} (x y : A) (xs ys : List A) → x ∷ xs ≡ y ∷ ys → xs ≡ ys
same_tail x y xs ys e = cc e

module _ (p : Params) (word_of : WordId → ℕ) where
  log_of_repeats : (t : LifeState) (n : ℕ) (xs rest : List LifeAct) → xs ++ rest ≡ repeated n → (reached p word_of t xs).log ≡ t.log
  log_of_repeats t n [] rest e = refl
  log_of_repeats t zero (x ∷ xs) rest e = absurd (none_cons x (xs ++ rest) e)
  log_of_repeats t (suc n) (x ∷ xs) rest e =
      let is : x ≡ ShowBatch = same_head x ShowBatch (xs ++ rest) (repeated n) e in
      ap (λ (a : LifeAct). (reached p word_of (life_step p word_of t a) xs).log) is
      ∙ log_of_repeats (life_step p word_of t ShowBatch) n xs rest (same_tail x ShowBatch (xs ++ rest) (repeated n) e)

  log_of_opening : (s : LifeState) (xs rest : List LifeAct) → opening_acts s ≡ xs ++ rest → (reached p word_of s xs).log ≡ s.log
  log_of_opening s [] rest e = refl
  log_of_opening s (x ∷ xs) rest e =
      let is : x ≡ Open (suc s.generation) = same_head x (Open (suc s.generation)) (xs ++ rest) (repeated (length s.log)) (sym e) in
      ap (λ (a : LifeAct). (reached p word_of (life_step p word_of s a) xs).log) is
      ∙ log_of_repeats (life_step p word_of s (Open (suc s.generation))) (length s.log) xs rest (same_tail x (Open (suc s.generation)) (xs ++ rest) (repeated (length s.log)) (sym e))

  turn_of_repeats : (t : LifeState) (k : WordsKept) (n : ℕ) (xs rest : List LifeAct) → xs ++ rest ≡ repeated n → AllDrawNext p word_of t k xs
  turn_of_repeats t k n [] rest e = tt
  turn_of_repeats t k zero (x ∷ xs) rest e = absurd (none_cons x (xs ++ rest) e)
  turn_of_repeats t k (suc n) (x ∷ xs) rest e =
      subst (λ (a : LifeAct). AllDrawNext p word_of t k (a ∷ xs)) (sym (same_head x ShowBatch (xs ++ rest) (repeated n) e))
      (tt, turn_of_repeats (life_step p word_of t ShowBatch) k n xs rest (same_tail x ShowBatch (xs ++ rest) (repeated n) e))

  -- nor do they draw a word
  turn_of_opening : (s : LifeState) (k : WordsKept) (xs rest : List LifeAct) → opening_acts s ≡ xs ++ rest → AllDrawNext p word_of s k xs
  turn_of_opening s k [] rest e = tt
  turn_of_opening s k (x ∷ xs) rest e =
      subst (λ (a : LifeAct). AllDrawNext p word_of s k (a ∷ xs)) (sym (same_head x (Open (suc s.generation)) (xs ++ rest) (repeated (length s.log)) (sym e)))
      (tt, turn_of_repeats (life_step p word_of s (Open (suc s.generation))) (record k { drawn = 0 }) (length s.log) xs rest (same_tail x (Open (suc s.generation)) (xs ++ rest) (repeated (length s.log)) (sym e)))

-- ---- the runs

pub none_found : (found : List LifeAct) → Finds None found → found ≡ []
none_found found (inl none) = none
none_found found (inr (a, pending, is)) = none_pending (found ≡ []) a pending

-- what is found behind acts that were made leaves small batches
pub small_found : (p : Params) (word_of : WordId → ℕ) (u : LifeState) (made : List LifeAct) (in_flight : Option LifeAct) → AreBatchesSmall (reached p word_of u made).log → ((b : LifeBatch) → in_flight ≡ Some (Append b) → IsBatchSmall b) → (f : List LifeAct) → Finds in_flight f
    → AreBatchesSmall (reached p word_of (reached p word_of u made) f).log
small_found p word_of u made in_flight few own f (inl none) = subst (λ (l : List LifeAct). AreBatchesSmall (reached p word_of (reached p word_of u made) l).log) (sym none) few
small_found p word_of u made in_flight few own f (inr (a, flies, is)) =
    subst (λ (l : List LifeAct). AreBatchesSmall (reached p word_of (reached p word_of u made) l).log) (sym is) (small_step p word_of (reached p word_of u made) a few (λ b e. own b (flies ∙ e)))

-- the next of some acts may be in flight
abbrev IsNext : Option LifeAct → List LifeAct → Type 0
IsNext in_flight rest = (in_flight ≡ None) ⊎ ((a : LifeAct) × (more : List LifeAct) × (in_flight ≡ Some a) × (rest ≡ a ∷ more))

-- The generations of these runs rise, from behind one to another at most.
abbrev pub Rise : {S : Type 0} → ℕ → List (RunPart S) → ℕ → Type 0
Rise g [] h = g ≤ h
Rise g (Served most old found opened calls steps behind refused words seen new ∷ parts) h = (g < (ring_hidden found).generation) × Rise (ring_hidden found).generation parts h
Rise g (Stopped old new ∷ parts) h = Rise g parts h

pub rise_from : {S : Type 0} (g k : ℕ) (parts : List (RunPart S)) (h : ℕ) → g ≤ k → Rise k parts h → Rise g parts h
rise_from g k [] h le rise = omega (arith, le, rise)
rise_from g k (Served most old found opened calls steps behind refused words seen new ∷ parts) h le rise = (let lt = rise.0 in omega (arith, le, lt), rise.1)
rise_from g k (Stopped old new ∷ parts) h le rise = rise_from g k parts h le rise

-- what a crash may leave behind the last of them
abbrev pub last_left : {S : Type 0} → (S → Disk) → (Image → Type 0) → List (RunPart S) → Image → Type 0
last_left disk may_leave [] = may_leave
last_left disk may_leave (part ∷ parts) = last_left disk (disk (left_at part)).may_leave parts

-- an act never takes the generation back
pub step_on : (p : Params) (word_of : WordId → ℕ) (s : LifeState) (a : LifeAct) → IsActAllowed p word_of s a → s.generation ≤ (life_step p word_of s a).generation
step_on p word_of s (Open g) allowed = omega (arith, allowed)
step_on p word_of s (Append r) allowed = omega arith
step_on p word_of s ShowBatch allowed = omega arith
step_on p word_of s ShowLifts allowed = omega arith
step_on p word_of s (End ws drawn slot) allowed = omega arith

generation_on : (p : Params) (word_of : WordId → ℕ) (s : LifeState) (acts : List LifeAct) → IsLife p word_of s acts → s.generation ≤ (reached p word_of s acts).generation
generation_on p word_of s [] life = omega arith
generation_on p word_of s (a ∷ acts) life =
    let one = step_on p word_of s a life.0 in
    let more = generation_on p word_of (life_step p word_of s a) acts life.1 in
    omega (arith, one, more)

repeats_stay : (p : Params) (word_of : WordId → ℕ) (s : LifeState) (n : ℕ) → (reached p word_of s (repeated n)).generation ≡ s.generation
repeats_stay p word_of s zero = refl
repeats_stay p word_of s (suc n) = repeats_stay p word_of (life_step p word_of s ShowBatch) n

-- an opening begins the next one
pub opening_next : (p : Params) (word_of : WordId → ℕ) (s : LifeState) → (reached p word_of s (opening_acts s)).generation ≡ suc s.generation
opening_next p word_of s = repeats_stay p word_of (life_step p word_of s (Open (suc s.generation))) (length s.log)

module _ {S : Type 0} (disk : S → Disk) (keys : Keys) (p : Params) (word_of : WordId → ℕ) where
  -- each image that may be left is at this state, or behind the act in flight
  abbrev pub AllLeft : LifeState → Option LifeAct → (Image → Type 0) → Type 0
  AllLeft t pending may_leave = (c : Image) → may_leave c → IsLeftAt keys p word_of t pending c

  abbrev pub AllSmall : LifeState → Option LifeAct → Type 0
  AllSmall t pending = (found : List LifeAct) → Finds pending found → AreBatchesSmall (reached p word_of t found).log

  -- the acts of these runs, where they end, and that their generations rise
  pub record AreOfLife (s : LifeState) (may_leave : Image → Type 0) (parts : List (RunPart S)) : Type 0 where
    pub acts : List LifeAct
    pub is_life : IsLife p word_of s acts
    pub parts_are : AreParts disk keys p word_of s parts acts
    pub turn : (k : WordsKept) → AllDrawNext p word_of s k acts
    pub end : LifeState
    pub flying : Option LifeAct
    pub ends : AllLeft end flying (last_left disk may_leave parts)
    pub small_end : AllSmall end flying
    pub rise : Rise s.generation parts end.generation

  -- a run, and those behind it
  join : (s : LifeState) (may_leave : Image → Type 0) (part : RunPart S) (parts : List (RunPart S)) (first : List LifeAct) → IsLife p word_of s first → IsPart disk keys p word_of s part first → ((k : WordsKept) → AllDrawNext p word_of s k first)
      → ((h : ℕ) → Rise (reached p word_of s first).generation parts h → Rise s.generation (part ∷ parts) h) → AreOfLife (reached p word_of s first) (disk (left_at part)).may_leave parts → AreOfLife s may_leave (part ∷ parts)
  join s may_leave part parts first life is turn rise later = record {
    acts = first ++ later.acts;
    is_life = life_goes_on p word_of s first later.acts life later.is_life;
    parts_are = (first, later.acts, refl, is, later.parts_are);
    turn = λ k. next_on p word_of s k first later.acts (turn k) (later.turn (words_behind p word_of s k first));
    end = later.end;
    flying = later.flying;
    ends = later.ends;
    small_end = later.small_end;
    rise = rise later.end.generation later.rise;
  }

  -- Of the act in flight the runs find this, and from there they are of the life.
  record Resolved (t : LifeState) (pending : Option LifeAct) (may_leave : Image → Type 0) (parts : List (RunPart S)) : Type 0 where
    found : List LifeAct
    finds : Finds pending found
    life : IsLife p word_of t found
    later : AreOfLife (reached p word_of t found) may_leave parts

  -- so it is of the runs behind a store, wherever it was left
  abbrev Again : S → List (RunPart S) → Type 0
  Again new parts = (u : LifeState) (flies : Option LifeAct) → AllLeft u flies (disk new).may_leave → AllSmall u flies → Resolved u flies (disk new).may_leave parts

  -- ---- an opening that was refused

  -- with what was in flight behind the acts that were made
  prefix_found : (t : LifeState) (made rest found : List LifeAct) (in_flight : Option LifeAct) → opening_acts t ≡ made ++ rest → IsNext in_flight rest → Finds in_flight found → (more : List LifeAct) × (opening_acts t ≡ (made ++ found) ++ more)
  prefix_found t made rest found in_flight are next (inl none) = (rest, are ∙ ap (λ (l : List LifeAct). l ++ rest) (sym (append-nil made) ∙ ap (λ (l : List LifeAct). made ++ l) (sym none)))
  prefix_found t made rest found in_flight are (inl idle) (inr (a, flies, is)) = none_pending ((more : List LifeAct) × (opening_acts t ≡ (made ++ found) ++ more)) a (sym idle ∙ flies)
  prefix_found t made rest found in_flight are (inr (b, more, own, rest_is)) (inr (a, flies, is)) = (
    more,
    are ∙ ap (λ (l : List LifeAct). made ++ l) (rest_is ∙ ap (λ (x : LifeAct). x ∷ more) (same_act b a (sym own ∙ flies)))
        ∙ sym (append_assoc made (a ∷ []) more) ∙ ap (λ (l : List LifeAct). (made ++ l) ++ more) (sym is),
  )

  smalls_then : (t : LifeState) (made rest : List LifeAct) (in_flight : Option LifeAct) → opening_acts t ≡ made ++ rest → IsNext in_flight rest → AreBatchesSmall t.log → AllSmall (reached p word_of t made) in_flight
  smalls_then t made rest in_flight are next small found finds =
      let pre = prefix_found t made rest found in_flight are next finds in
      subst AreBatchesSmall (sym (ap (λ (u : LifeState). u.log) (sym (reached_join p word_of t made found)) ∙ log_of_opening p word_of t (made ++ found) pre.0 pre.1)) small

  module _ (old new : S) (may_leave : Image → Type 0) (parts : List (RunPart S)) (again : Again new parts) where
    behind_opening : (t : LifeState) (made rest : List LifeAct) (in_flight : Option LifeAct) → opening_acts t ≡ made ++ rest → IsNext in_flight rest → IsLife p word_of t made → AreBatchesSmall t.log → AllLeft (reached p word_of t made) in_flight (disk new).may_leave
        → AreOfLife t may_leave (Stopped old new ∷ parts)
    behind_opening t made rest in_flight are next life small many =
        let r : Resolved (reached p word_of t made) in_flight (disk new).may_leave parts = again (reached p word_of t made) in_flight many (smalls_then t made rest in_flight are next small) in
        let pre = prefix_found t made rest r.found in_flight are next r.finds in
        let whole : IsLife p word_of t (made ++ r.found) = life_goes_on p word_of t made r.found life r.life in
        join t may_leave (Stopped old new) parts (made ++ r.found) whole (pre.0, pre.1) (λ k. turn_of_opening p word_of t k (made ++ r.found) pre.0 pre.1)
        (λ h rise. rise_from t.generation (reached p word_of t (made ++ r.found)).generation parts h (generation_on p word_of t (made ++ r.found) whole) rise)
        (subst (λ (u : LifeState). AreOfLife u (disk new).may_leave parts) (sym (reached_join p word_of t made r.found)) r.later)

    module _ (t : LifeState) (pending : Option LifeAct) (small : AllSmall t pending) where
      -- nothing was settled
      unsettled : AllLeft t pending (disk new).may_leave → Resolved t pending may_leave (Stopped old new ∷ parts)
      unsettled many =
          let r : Resolved t pending (disk new).may_leave parts = again t pending many small in
          record {
            found = r.found;
            finds = r.finds;
            life = r.life;
            later = join (reached p word_of t r.found) may_leave (Stopped old new) parts [] tt (opening_acts (reached p word_of t r.found), refl) (λ k. tt) (λ h rise. rise) r.later;
          }

      -- it was settled that nothing was found
      not_found : AllLeft t None (disk new).may_leave → Resolved t pending may_leave (Stopped old new ∷ parts)
      not_found many =
          let r : Resolved t None (disk new).may_leave parts = again t None many (λ found finds. subst (λ (l : List LifeAct). AreBatchesSmall (reached p word_of t l).log) (sym (none_found found finds)) (small [] (inl refl))) in
          record {
            found = [];
            finds = inl refl;
            life = tt;
            later = join t may_leave (Stopped old new) parts [] tt (opening_acts t, refl) (λ k. tt) (λ h rise. rise) (subst (λ (l : List LifeAct). AreOfLife (reached p word_of t l) (disk new).may_leave parts) (none_found r.found r.finds) r.later);
          }

      settled : (found : List LifeAct) → Finds pending found → (made rest : List LifeAct) (in_flight : Option LifeAct) → found ++ opening_acts (reached p word_of t found) ≡ made ++ rest → IsNext in_flight rest → IsLife p word_of t made
          → AllLeft (reached p word_of t made) in_flight (disk new).may_leave → Resolved t pending may_leave (Stopped old new ∷ parts)
      settled found (inl none) made rest in_flight are next life many = record {
        found = [];
        finds = inl refl;
        life = tt;
        later = behind_opening t made rest in_flight (sym (ap (λ (l : List LifeAct). l ++ opening_acts (reached p word_of t l)) none) ∙ are) next life (small [] (inl refl)) many;
      }
      settled found (inr (a, flies, is)) [] rest in_flight are (inl idle) life many = not_found (λ c will. subst (λ (f : Option LifeAct). IsLeftAt keys p word_of t f c) idle (many c will))
      settled found (inr (a, flies, is)) [] rest in_flight are (inr (b, more, own, rest_is)) life many =
          let heads : a ∷ opening_acts (life_step p word_of t a) ≡ b ∷ more = sym (ap (λ (l : List LifeAct). l ++ opening_acts (reached p word_of t l)) is) ∙ are ∙ rest_is in
          let still : in_flight ≡ pending = own ∙ ap (λ (x : LifeAct). Some x) (sym (same_head a b (opening_acts (life_step p word_of t a)) more heads)) ∙ sym flies in
          unsettled (λ c will. subst (λ (f : Option LifeAct). IsLeftAt keys p word_of t f c) still (many c will))
      settled found (inr (a, flies, is)) (m ∷ made) rest in_flight are next life many =
          let whole : a ∷ opening_acts (life_step p word_of t a) ≡ m ∷ (made ++ rest) = sym (ap (λ (l : List LifeAct). l ++ opening_acts (reached p word_of t l)) is) ∙ are in
          let same : m ≡ a = sym (same_head a m (opening_acts (life_step p word_of t a)) (made ++ rest) whole) in
          let own : opening_acts (life_step p word_of t a) ≡ made ++ rest = same_tail a m (opening_acts (life_step p word_of t a)) (made ++ rest) whole in
          let here : IsActAllowed p word_of t a × IsLife p word_of (life_step p word_of t a) made = subst (λ (x : LifeAct). IsActAllowed p word_of t x × IsLife p word_of (life_step p word_of t x) made) same life in
          record {
            found = a ∷ [];
            finds = inr (a, flies, refl);
            life = (here.0, tt);
            later = behind_opening (life_step p word_of t a) made rest in_flight own next here.1 (small (a ∷ []) (inr (a, flies, refl)))
                (λ c will. subst (λ (x : LifeAct). IsLeftAt keys p word_of (reached p word_of (life_step p word_of t x) made) in_flight c) same (many c will));
          }

      stopped : (o : IsStoppedInLife keys p word_of t pending (disk new)) → ((o.made ≡ []) × (o.in_flight ≡ pending)) ⊎ ((rest : List LifeAct) × (o.found ++ opening_acts (reached p word_of t o.found) ≡ o.made ++ rest) × IsNext o.in_flight rest)
          → Resolved t pending may_leave (Stopped old new ∷ parts)
      stopped o (inl (none, still)) = unsettled (λ c will. subst (λ (l : List LifeAct). IsLeftAt keys p word_of (reached p word_of t l) pending c) none
          (subst (λ (f : Option LifeAct). IsLeftAt keys p word_of (reached p word_of t o.made) f c) still (o.images c will)))
      stopped o (inr (rest, are, next)) = settled o.found o.finds o.made rest o.in_flight are next o.is_life o.images

  -- ---- a run that was served

  module _ (most : ℕ) (old : S) (found : RingFound) (opened : S) (calls : List VaultCall) (steps : List (Shape × Fills)) (behind : RingHidden) (refused : Option VaultCall) (words : List ℕ) (seen : List Event) (new : S) (parts : List (RunPart S)) where
    abbrev part : RunPart S
    part = Served most old found opened calls steps behind refused words seen new

    served : (t : LifeState) → StandsInLife keys p word_of t (disk old).cells → AreBatchesSmall t.log → IsRunTold disk keys p part → AreTapeWords word_of (ring_hidden found).generation words → Again new parts → (may_leave : Image → Type 0) → AreOfLife t may_leave (part ∷ parts)
    served t stands small told tape again may_leave =
        let (begins, goes_on, (m, is_map)) = told in
        let run : IsRunInLife keys most p word_of t found (disk opened) calls steps behind refused words seen (disk new) =
        whole_run keys most p (disk old).cells found (disk opened) (disk new) calls steps behind refused words seen begins goes_on word_of t stands small tape in
        let left = (run.goes).left m is_map in
        let acts : List LifeAct = opening_acts t ++ (run.goes).acts in
        let last : LifeState = reached p word_of (reached p word_of t (opening_acts t)) (run.goes).acts in
        let with_made : IsLife p word_of t (acts ++ left.made) = life_goes_on p word_of t acts left.made run.is_life (subst (λ (u : LifeState). IsLife p word_of u left.made) (sym run.leads) left.is_life) in
        let there : reached p word_of t (acts ++ left.made) ≡ reached p word_of last left.made = reached_join p word_of t acts left.made ∙ ap (λ (u : LifeState). reached p word_of u left.made) run.leads in
        let r : Resolved (reached p word_of t (acts ++ left.made)) left.in_flight (disk new).may_leave parts = again (reached p word_of t (acts ++ left.made)) left.in_flight
        (λ c will. subst (λ (u : LifeState). IsLeftAt keys p word_of u left.in_flight c) (sym there) (left.images c will))
        (λ f finds. subst (λ (u : LifeState). AreBatchesSmall (reached p word_of u f).log) (sym there) (small_found p word_of last left.made left.in_flight left.small.0 (λ b e. left.small.1 b e) f finds)) in
        let behind_all : reached p word_of t (acts ++ (left.made ++ r.found)) ≡ reached p word_of (reached p word_of t (acts ++ left.made)) r.found =
        ap (λ (l : List LifeAct). reached p word_of t l) (sym (append_assoc acts left.made r.found)) ∙ reached_join p word_of t (acts ++ left.made) r.found in
        let opened_in = begins word_of t stands small in
        let began : suc t.generation ≡ (ring_hidden found).generation = sym (opening_next p word_of t) ∙ opened_in.then.generation in
        let one = generation_on p word_of (reached p word_of t (opening_acts t)) (run.goes).acts (run.goes).is_life in
        let two = generation_on p word_of last left.made left.is_life in
        let three = generation_on p word_of (reached p word_of t (acts ++ left.made)) r.found r.life in
        join t may_leave part parts (acts ++ (left.made ++ r.found)) (subst (λ (l : List LifeAct). IsLife p word_of t l) (append_assoc acts left.made r.found) (life_goes_on p word_of t (acts ++ left.made) r.found with_made r.life))
        (run, m, is_map, r.found, r.finds, refl)
        (λ k. found_turn t acts left.made left.in_flight k (run.turn_left m is_map k) (λ a flies. run.turn_flown m is_map a flies k) r.found r.finds)
        (λ h rise. rising t.generation (ring_hidden found).generation (reached p word_of t (acts ++ (left.made ++ r.found))).generation h began
        (rises_all (ring_hidden found).generation (reached p word_of t (opening_acts t)).generation last.generation (reached p word_of last left.made).generation (reached p word_of t (acts ++ left.made)).generation
        (reached p word_of (reached p word_of t (acts ++ left.made)) r.found).generation (reached p word_of t (acts ++ (left.made ++ r.found))).generation (sym opened_in.then.generation) one two (ap (λ (u : LifeState). u.generation) (sym there)) three (ap (λ (u : LifeState). u.generation) (sym behind_all)))
        rise)
        (subst (λ (u : LifeState). AreOfLife u (disk new).may_leave parts) (sym behind_all) r.later)
      where
        rises_all : (a b d e f g k : ℕ) → a ≡ b → b ≤ d → d ≤ e → e ≡ f → f ≤ g → g ≡ k → a ≤ k
        rises_all a b d e f g k ab bd de ef fg gk = omega (arith, ab, bd, de, ef, fg, gk)

        rising : (g k u h : ℕ) → suc g ≡ k → k ≤ u → Rise u parts h → (g < k) × Rise k parts h
        rising g k u h next le rise = (omega (arith, next), rise_from k u parts h le rise)

        found_turn : (s : LifeState) (acts made : List LifeAct) (in_flight : Option LifeAct) (k : WordsKept) → AllDrawNext p word_of s k (acts ++ made) → ((a : LifeAct) → in_flight ≡ Some a → AllDrawNext p word_of s k (acts ++ (made ++ a ∷ []))) → (f : List LifeAct) → Finds in_flight f
            → AllDrawNext p word_of s k (acts ++ (made ++ f))
        found_turn s acts made in_flight k idle flown f (inl none) = subst (λ (l : List LifeAct). AllDrawNext p word_of s k (acts ++ l)) (sym (append-nil made) ∙ ap (λ (l : List LifeAct). made ++ l) (sym none)) idle
        found_turn s acts made in_flight k idle flown f (inr (a, flies, is)) = subst (λ (l : List LifeAct). AllDrawNext p word_of s k (acts ++ (made ++ l))) (sym is) (flown a flies)

  -- ---- all of them

  resolve : (parts : List (RunPart S)) (t : LifeState) (pending : Option LifeAct) (may_leave : Image → Type 0) → AllLeft t pending may_leave → AllSmall t pending → AreRunsFrom disk keys p may_leave parts → AreGiven word_of parts → Resolved t pending may_leave parts
  resolve [] t pending may_leave left small from given = record { found = []; finds = inl refl; life = tt; later = record { acts = []; is_life = tt; parts_are = refl; turn = λ k. tt; end = t; flying = pending; ends = left; small_end = small; rise = omega arith } }
  resolve (Served most old found opened calls steps behind refused words seen new ∷ parts) t pending may_leave left small from given =
      let at : IsLeftAt keys p word_of t pending (disk old).cells = left (disk old).cells from.0 in
      let again : Again new parts = λ u flies many smalls. resolve parts u flies (disk new).may_leave many smalls from.2 given.1 in
      ⊎_elim
      (λ (stands : StandsInLife keys p word_of t (disk old).cells). record {
        found = [];
        finds = inl refl;
        life = tt;
        later = served most old found opened calls steps behind refused words seen new parts t stands (small [] (inl refl)) from.1 given.0 again may_leave;
      })
      (λ (one : (a : LifeAct) × (pending ≡ Some a) × StandsInLife keys p word_of (life_step p word_of t a) (disk old).cells). record {
        found = one.0 ∷ [];
        finds = inr (one.0, one.1, refl);
        life = (at.allowed one.0 one.1, tt);
        later = served most old found opened calls steps behind refused words seen new parts (life_step p word_of t one.0) one.2 (small (one.0 ∷ []) (inr (one.0, one.1, refl))) from.1 given.0 again may_leave;
      })
      (at.stands (disk old).cells refl)
  resolve (Stopped old new ∷ parts) t pending may_leave left small from given =
      let o : IsStoppedInLife keys p word_of t pending (disk new) = from.1 word_of t pending (left (disk old).cells from.0.0) (λ c will. left c (from.0.1 c will)) in
      let again : Again new parts = λ u flies many smalls. resolve parts u flies (disk new).may_leave many smalls from.2 given in
      stopped old new may_leave parts again t pending small o o.part

  -- from a store that stands for a life
  pub from_life : (parts : List (RunPart S)) (t : LifeState) (may_leave : Image → Type 0) → ((c : Image) → may_leave c → StandsInLife keys p word_of t c) → AreBatchesSmall t.log → AreRunsFrom disk keys p may_leave parts → AreGiven word_of parts → AreOfLife t may_leave parts
  from_life parts t may_leave stands small from given =
      let r : Resolved t None may_leave parts = resolve parts t None may_leave
      (λ c left. record { allowed = λ a e. none_pending (IsActAllowed p word_of t a) a e; stands = λ i same. inl (subst (λ (x : Image). StandsInLife keys p word_of t x) same (stands c left)) })
      (λ found finds. subst (λ (l : List LifeAct). AreBatchesSmall (reached p word_of t l).log) (sym (none_found found finds)) small) from given in
      subst (λ (l : List LifeAct). AreOfLife (reached p word_of t l) may_leave parts) (none_found r.found r.finds) r.later

pub runs_are_one_life : {S : Type 0} (disk : S → Disk) → RunsAreOneLife disk
runs_are_one_life disk keys p drawn made parts f from word_of given =
    let all = from_life disk keys p word_of parts (formatted_life f.slot) (disk made).may_leave (λ c left. f.stands word_of c left) f.small from given in
    let turn : AreTapeWords word_of 1 drawn → AreWordsInTurn p word_of f.slot all.acts =
    λ tape. record { format = format_ranked p drawn f.slot word_of f.many f.of_words tape; behind = all.turn (formatted_words p) } in
    record {
      slot = f.slot;
      of_words = f.of_words;
      ranked = f.ranked;
      acts = all.acts;
      is_life = all.is_life;
      parts_are = all.parts_are;
      fresh = λ some. lives_are_fresh p word_of f.slot all.acts some f.ranked all.is_life;
      turn = turn;
      apart = λ some tape. no_word_twice p word_of f.slot all.acts some f.ranked all.is_life (turn tape);
    }
