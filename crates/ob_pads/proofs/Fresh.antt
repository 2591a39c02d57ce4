-- No pad is used twice.
use Rattle.std.proofs.Common.{◌≡◌, ◌⊎◌, inl, inr, ⊎_elim, ℕ, zero, suc, ◌+◌, ◌-◌, ◌<◌, ◌≤◌, List, [], ◌∷◌, ◌++◌, Option, Some, None, refl, sym, ap, subst, ◌∙◌, arith, append_assoc}
use Rattle.std.specs.Prelude.{IfSome}
use Rattle.std.proofs.lemmas.List.{append-nil}
use mathlib.Core.Path.{fun_ext}
use Rattle.ob_base.specs.Repeats.{Has, NoRepeats}
use Rattle.ob_base.proofs.Repeats.{has_cases}
use Rattle.ob_store.specs.Disk.{Disk, Image, Clock, NotAfter}
use Rattle.ob_store.specs.Images.{IsImageOf}
use Rattle.ob_store.proofs.Moments.{no_later}
use Rattle.ob_seal.specs.declared.keys.Keys.{Keys}
use Rattle.ob_seal.specs.Sealing.{Sealing}
use Rattle.ob_serial.specs.Vaults.{VaultAnswer}
use Rattle.ob_pads.specs.Seals.{Pad, pads_from, pads_between}
use Rattle.ob_pads.specs.Lives.{StoreAct, Opened, Unopened, Answered, Crashed, At, after_act, pads_of, IsAtGeneration, LeavesNext, Opens, LeavesUnopened, Answers, IsCrashed, IsLife, IsFormattedStore, AreDurable, formatted_at}

some_same : (r q : Sealing) → ◌≡◌ {A = Option Sealing} (Some r) (Some q) → r ≡ q
some_same r q is = cc

none_some : (q : Sealing) → ◌≡◌ {A = Option Sealing} None (Some q) → ⊥
none_some q is = cc

if_some : {T : Type 0} {P : T → Type 0} (o : Option T) → ((r : T) → o ≡ Some r → P r) → IfSome o P
if_some None so = tt
if_some (Some r) so = so r refl

-- ---- lists of pads

in_run : (g a n : ℕ) (x : Pad) → Has (pads_from g a n) x → (x.0 ≡ g) × (a ≤ x.1) × (x.1 < a + n)
in_run g a zero x has = absurd has
in_run g a (suc n) x (inl is) =
    let first : g ≡ x.0 = ap (λ (y : Pad). y.0) is in
    let second : a ≡ x.1 = ap (λ (y : Pad). y.1) is in
    (sym first, omega arith, omega arith)
in_run g a (suc n) x (inr has) = let rest = in_run g (a + 1) n x has in (rest.0, omega (arith, rest.1), omega (arith, rest.2))

run_fresh : (g a n : ℕ) → NoRepeats (pads_from g a n)
run_fresh g a zero = tt
run_fresh g a (suc n) = ((λ has. let rest : (g ≡ g) × (a + 1 ≤ a) × (a < (a + 1) + n) = in_run g (a + 1) n (g, a) has in omega (arith, rest.1)), run_fresh g (a + 1) n)

both_fresh : (xs ys : List Pad) → NoRepeats xs → NoRepeats ys → ((x : Pad) → Has xs x → Has ys x → ⊥) → NoRepeats (xs ++ ys)
both_fresh [] ys fresh rest apart = rest
both_fresh (x ∷ xs) ys fresh rest apart = (
  (λ has. ⊎_elim (λ here. fresh.0 here) (λ there. apart x (inl refl) there) (has_cases xs ys x has)),
  both_fresh xs ys fresh.1 rest (λ y here there. apart y (inr here) there),
)

-- what each store says of its images
pub record HasImages {S : Type 0} (disk : S → Disk) : Type 0 where
  pub counts_now : (store : S) (t : Clock) (c : Image) → NotAfter t (disk store).moment → (disk store).may_leave c → (disk store).left_since t c
  pub only_now : (store : S) (c : Image) → (disk store).left_since (disk store).moment c → (disk store).may_leave c
  pub includes_reads : (store : S) → (disk store).tells → (disk store).leaves → (disk store).may_leave (disk store).cells

-- ---- what holds at every point of a life

module _ {S : Type 0} (disk : S → Disk) (keys : Keys) where
  -- the image's register stands at this generation or a later one
  abbrev IsFrom : ℕ → Image → Type 0
  IsFrom low c = (g : ℕ) × (low ≤ g) × IsAtGeneration keys g c

  record Runs (store : S) (done : List Pad) (low : ℕ) (r : Sealing) : Type 0 where
    pub keys_are : r.keys ≡ keys
    pub least : low ≤ r.generation
    pub unsealed : (x : Pad) → Has done x → (x.0 < r.generation) ⊎ ((x.0 ≡ r.generation) × (x.1 < r.next))
    pub images : (c : Image) → (disk store).may_leave c → IsAtGeneration keys r.generation c

  record Holds (at : At S) (done : List Pad) : Type 0 where
    pub tells : (disk at.store).tells
    pub leaves : (disk at.store).leaves
    pub later : NotAfter (disk at.since).moment (disk at.store).moment
    pub low : ℕ
    pub since : (c : Image) → (disk at.store).left_since (disk at.since).moment c → IsFrom low c
    pub sealed : (x : Pad) → Has done x → x.0 ≤ low
    pub running : (r : Sealing) → at.sealing ≡ Some r → Runs at.store done low r

  module _ (has : HasImages disk) where
    -- what a crash may leave now
    now : (at : At S) (done : List Pad) (h : Holds at done) (c : Image) → (disk at.store).may_leave c → IsFrom h.low c
    now at done h c left = h.since c (has.counts_now at.store (disk at.since).moment c h.later left)

    reads : (at : At S) (done : List Pad) (h : Holds at done) → IsFrom h.low (disk at.store).cells
    reads at done h = now at done h (disk at.store).cells (has.includes_reads at.store h.tells h.leaves)

    -- what reads give is among what a crash may leave
    image_left : (at : At S) (done : List Pad) (h : Holds at done) (c : Image) → IsImageOf (disk at.store) c → (disk at.store).may_leave c
    image_left at done h c is = ⊎_elim (λ left. left) (λ read. subst (λ (i : Image). (disk at.store).may_leave i) (sym read.1) (has.includes_reads at.store h.tells h.leaves)) is

    -- what an opening leaves, that went well or not
    from_next : (at : At S) (done : List Pad) (h : Holds at done) (new : Disk) → LeavesNext keys (disk at.store) new → (c : Image) → new.left_since (disk at.store).moment c → IsFrom h.low c
    from_next at done h new leaves c left =
        let from = reads at done h in
        let le = from.1 in
        let run = leaves from.0 from.2 in
        ⊎_elim
        (λ was. now at done h c was)
        (λ either. ⊎_elim (λ stays. (from.0, le, stays)) (λ next. (suc from.0, omega (arith, le), next)) either)
        (run.each c left)

    begin : (n : ℕ) (store : S) → IsFormattedStore disk keys store → Holds (formatted_at store) (pads_from 1 0 n)
    begin n store f = record {
      tells = f.tells;
      leaves = f.leaves;
      later = no_later (disk store).moment;
      low = 1;
      since = λ c left. (1, omega arith, f.images c (has.only_now store c left));
      sealed = λ x here. (let is = (in_run 1 0 n x here).0 in omega arith);
      running = λ r is. absurd (none_some r is);
    }

    opened_step : (at : At S) (done : List Pad) → Holds at done → (store : S) (r : Sealing) → Opens keys (disk at.store) (disk store) r → Holds (after_act at (Opened store r)) done
    opened_step at done h store r s =
        let from = reads at done h in
        let le = from.1 in
        let next : r.generation ≡ suc from.0 = s.next from.0 from.2 in
        record {
          tells = s.tells;
          leaves = s.goes.leaves.0 h.leaves;
          later = s.goes.later;
          low = h.low;
          since = λ c left. from_next at done h (disk store) s.crash c left;
          sealed = h.sealed;
          running = λ q is. subst (λ (x : Sealing). Runs store done h.low x) (some_same r q is) (record {
            keys_are = s.keys_are;
            least = omega (arith, le, next);
            unsealed = λ x here. inl (omega (arith, h.sealed x here, le, next));
            images = λ c left. subst (λ g. IsAtGeneration keys g c) (sym next) (s.images from.0 from.2 c left);
          });
        }

    unopened_step : (at : At S) (done : List Pad) → Holds at done → (store : S) → LeavesUnopened keys (disk at.store) (disk store) → Holds (after_act at (Unopened store)) done
    unopened_step at done h store s = record {
      tells = s.tells;
      leaves = s.goes.leaves.0 h.leaves;
      later = s.goes.later;
      low = h.low;
      since = λ c left. from_next at done h (disk store) s.crash c left;
      sealed = h.sealed;
      running = λ q is. absurd (none_some q is);
    }

    crashed_step : (at : At S) (done : List Pad) → Holds at done → (store : S) → IsCrashed (disk at.since) (disk at.store) (disk store) → Holds (after_act at (Crashed store)) done
    crashed_step at done h store s = record {
      tells = s.tells;
      leaves = s.leaves;
      later = no_later (disk store).moment;
      low = h.low;
      since = λ c left. subst (λ (i : Image). IsFrom h.low i) (sym (fun_ext (λ k. s.sure c (has.only_now store c left) k))) (h.since (disk store).cells s.left);
      sealed = h.sealed;
      running = λ q is. absurd (none_some q is);
    }

    module _ (at : At S) (done : List Pad) (h : Holds at done) (store : S) (was r : Sealing) (answer : VaultAnswer) (is : at.sealing ≡ Some was) (s : Answers (disk at.store) (disk store) was r answer) where
      w : Runs at.store done h.low was
      w = h.running was is

      -- the pads of the call
      abbrev made : List Pad
      made = pads_from was.generation was.next (r.next - was.next)

      left_at : (c : Image) → (disk store).left_since (disk at.store).moment c → IsAtGeneration keys was.generation c
      left_at c left = subst (λ (k : Keys). IsAtGeneration k was.generation c) w.keys_are ((s.images (λ d before. subst (λ (k : Keys). IsAtGeneration k was.generation d) (sym w.keys_are) (w.images d (image_left at done h d before)))).each c left)

      answered_step : Holds (after_act at (Answered store r answer)) (done ++ made)
      answered_step =
          let keeps = s.further.generation in
          record {
            tells = s.tells;
            leaves = s.goes.leaves.0 h.leaves;
            later = s.goes.later;
            low = was.generation;
            since = λ c left. (was.generation, omega arith, left_at c left);
            sealed = λ x here. ⊎_elim (λ early. omega (arith, h.sealed x early, w.least)) (λ late. omega (arith, (in_run was.generation was.next (r.next - was.next) x late).0)) (has_cases done made x here);
            running = λ q e. subst (λ (x : Sealing). Runs store (done ++ made) was.generation x) (some_same r q e) (record {
              keys_are = s.further.keys ∙ w.keys_are;
              least = omega (arith, keeps);
              unsealed = λ x here. ⊎_elim (early x) (late x) (has_cases done made x here);
              images = λ c left. subst (λ g. IsAtGeneration keys g c) (sym keeps) (left_at c (has.counts_now store (disk at.store).moment c s.goes.later left));
            });
          }
        where
          early : (x : Pad) → Has done x → (x.0 < r.generation) ⊎ ((x.0 ≡ r.generation) × (x.1 < r.next))
          early x here = ⊎_elim (λ lower. inl (omega (arith, lower, s.further.generation))) (λ same. inr (omega (arith, same.0, s.further.generation), omega (arith, same.1, s.further.on))) (w.unsealed x here)

          late : (x : Pad) → Has made x → (x.0 < r.generation) ⊎ ((x.0 ≡ r.generation) × (x.1 < r.next))
          late x here =
              let is_in = in_run was.generation was.next (r.next - was.next) x here in
              inr (omega (arith, is_in.0, s.further.generation), omega (arith, is_in.2, s.further.on))

      answered_fresh : NoRepeats done → NoRepeats (done ++ made)
      answered_fresh fresh = both_fresh done made fresh (run_fresh was.generation was.next (r.next - was.next)) apart
        where
          apart : (x : Pad) → Has done x → Has made x → ⊥
          apart x here there =
              let is_in = in_run was.generation was.next (r.next - was.next) x there in
              ⊎_elim (λ lower. omega (arith, lower, is_in.0)) (λ same. omega (arith, same.1, is_in.1)) (w.unsealed x here)

    -- ---- a whole life

    fresh_from : (acts : List (StoreAct S)) (at : At S) (done : List Pad) → NoRepeats done → Holds at done → IsLife disk keys at acts → NoRepeats (done ++ pads_of at acts)
    fresh_from [] at done fresh h life = subst (λ (l : List Pad). NoRepeats l) (sym (append-nil done)) fresh
    fresh_from (Opened store r ∷ acts) at done fresh h life = fresh_from acts (after_act at (Opened store r)) done fresh (opened_step at done h store r life.0) life.1
    fresh_from (Unopened store ∷ acts) at done fresh h life = fresh_from acts (after_act at (Unopened store)) done fresh (unopened_step at done h store life.0) life.1
    fresh_from (Crashed store ∷ acts) at done fresh h life = fresh_from acts (after_act at (Crashed store)) done fresh (crashed_step at done h store life.0) life.1
    fresh_from (Answered store r answer ∷ acts) at done fresh h ((was, is, s), life) =
        let new = made at done h store was r answer is s in
        let rest = pads_of (after_act at (Answered store r answer)) acts in
        let whole : NoRepeats ((done ++ new) ++ rest) = fresh_from acts (after_act at (Answered store r answer)) (done ++ new) (answered_fresh at done h store was r answer is s fresh) (answered_step at done h store was r answer is s) life in
        subst (λ (o : Option Sealing). NoRepeats (done ++ (pads_between o r ++ rest))) (sym is) (subst (λ (l : List Pad). NoRepeats l) (append_assoc done new rest) whole)

    tells_generation : (at : At S) (done : List Pad) → Holds at done → IfSome at.sealing (λ r. (c : Image) → (disk at.store).may_leave c → IsAtGeneration keys r.generation c)
    tells_generation at done h = if_some at.sealing (λ r is c left. (h.running r is).images c left)

    durable_from : (acts : List (StoreAct S)) (at : At S) (done : List Pad) → Holds at done → IsLife disk keys at acts → AreDurable disk keys at acts
    durable_from [] at done h life = tt
    durable_from (Opened store r ∷ acts) at done h life = (tells_generation at done h, durable_from acts (after_act at (Opened store r)) done (opened_step at done h store r life.0) life.1)
    durable_from (Unopened store ∷ acts) at done h life = (tells_generation at done h, durable_from acts (after_act at (Unopened store)) done (unopened_step at done h store life.0) life.1)
    durable_from (Crashed store ∷ acts) at done h life = (tells_generation at done h, durable_from acts (after_act at (Crashed store)) done (crashed_step at done h store life.0) life.1)
    durable_from (Answered store r answer ∷ acts) at done h ((was, is, s), life) =
        (tells_generation at done h, durable_from acts (after_act at (Answered store r answer)) (done ++ made at done h store was r answer is s) (answered_step at done h store was r answer is s) life)

pub pads_are_fresh : (S : Type 0) (disk : S → Disk) (keys : Keys) (n : ℕ) (store : S) (acts : List (StoreAct S)) → HasImages disk → IsFormattedStore disk keys store → IsLife disk keys (formatted_at store) acts
    → NoRepeats (pads_from 1 0 n ++ pads_of (formatted_at store) acts)
pads_are_fresh S disk keys n store acts has f life = fresh_from disk keys has acts (formatted_at store) (pads_from 1 0 n) (run_fresh 1 0 n) (begin disk keys has n store f) life

pub generations_are_durable : (S : Type 0) (disk : S → Disk) (keys : Keys) (store : S) (acts : List (StoreAct S)) → HasImages disk → IsFormattedStore disk keys store → IsLife disk keys (formatted_at store) acts
    → AreDurable disk keys (formatted_at store) acts
generations_are_durable S disk keys store acts has f life = durable_from disk keys has acts (formatted_at store) (pads_from 1 0 0) (begin disk keys has 0 store f) life
