-- Chains of calls, taken apart, and calls that leave the map.
use Rattle.std.proofs.Common.{◌≡◌, ◌∙◌, ℕ, All, List, [], ◌∷◌, ◌++◌, Option, Some, refl, sym, ap, subst, nat_cmp}
use Rattle.std.specs.FinMap as finite
use Rattle.std.specs.List.{slice_get}
use Rattle.std.proofs.lemmas.List.Elements.{All-nil, All-cons, All-head, All-tail}
use Rattle.ob_store.specs.declared.watch.Note.{Note}
use Rattle.ob_store.specs.Lines.{Trace}
use Rattle.ob_serial.specs.Serial.{Map}
use Rattle.ob_serial.specs.Vaults.{VaultCall, VaultAnswer, Fetch, Values, VaultState, vault_next}
use Rattle.ob_serial.specs.VaultKinds.{Kind, Called, AllCalled}
use Rattle.ob_desk.specs.Desk as desk
use Rattle.ob_desk.specs.Desk.{DeskState, Call, Reply, IsFed, map_next, Run}
use Rattle.ob_session.specs.Steps.{Leads}
use Rattle.ob_hall.specs.Passes.{Steps}
use Rattle.ob_conduct.specs.Acts.{Batch, rest_calls, rest_fetches}
use Rattle.ob_conduct.specs.Scenes.{AllNoted}
use Rattle.ob_conduct.specs.Records.{HoldsMap}

pub leads_split : (a : DeskState) (xs ys : Steps) (c : DeskState) → Leads a (xs ++ ys) c → (b : DeskState) × Leads a xs b × Leads b ys c
leads_split a [] ys c leads = (a, refl, leads)
leads_split a (x ∷ xs) ys c (mid, may, one, rest) = let (b, first, last) = leads_split mid xs ys c rest in (b, (mid, may, one, first), last)

pub called_split : {V : Type 0} (k : Kind V) (a : V) (xs ys : List (VaultCall × VaultAnswer)) (c : V) → AllCalled k a (xs ++ ys) c → (b : V) × AllCalled k a xs b × AllCalled k b ys c
called_split k a [] ys c chain = (a, refl, chain)
called_split k a (x ∷ xs) ys c (mid, one, rest) = let (b, front, back) = called_split k mid xs ys c rest in (b, (mid, one, front), back)

-- with their notes, and what the watch told between
pub noted_split : {V : Type 0} (k : Kind V) (a : V) (t : Trace) (xs ys : List (VaultCall × VaultAnswer)) (notes : List Note) (c : V) (u : Trace) → AllNoted k a t (xs ++ ys) notes c u
    → (b : V) × (s : Trace) × (first : List Note) × (last : List Note) × AllNoted k a t xs first b s × AllNoted k b s ys last c u
noted_split k a t [] ys notes c u chain = (a, t, [], notes, (refl, refl, refl), chain)
noted_split k a t (x ∷ xs) ys notes c u (mid, between, one, more, are, rest) =
    let (b, s, first, last, front, back) = noted_split k mid between xs ys more c u rest in
    (b, s, one.one.notes ++ first, last, (mid, between, one, first, refl, front), back)

-- ---- calls that leave the map as it is

abbrev pub IsPlain : Map nat_cmp → Call × Reply → Type 0
IsPlain m step = IsFed m step.0 × ((d : DeskState) → map_next m d step.0 ≡ m)

pub plain_run : (m : Map nat_cmp) (d : DeskState) (steps : Steps) (new : DeskState) → All (IsPlain m) steps → Leads d steps new → Run m d steps m new
plain_run m d [] new plain is = (refl, is)
plain_run m d (step ∷ steps) new plain (mid, may, one, rest) =
    let head : IsPlain m step = All-head (IsPlain m) step steps plain in
    (mid, may, one, head.0, subst (λ (n : Map nat_cmp). Run n mid steps m new) (sym (head.1 d)) (plain_run m mid steps new (All-tail (IsPlain m) step steps plain) rest))

pub plain_more : (m : Map nat_cmp) (call : Call) (reply : Reply) (steps : Steps) → IsPlain m (call, reply) → All (IsPlain m) steps → All (IsPlain m) ((call, reply) ∷ steps)
plain_more m call reply steps one more = All-cons (IsPlain m) (call, reply) steps one more

pub plain_one : (m : Map nat_cmp) (call : Call) (reply : Reply) → IsPlain m (call, reply) → All (IsPlain m) ((call, reply) ∷ [])
plain_one m call reply one = All-cons (IsPlain m) (call, reply) [] one (All-nil (IsPlain m))

-- ---- batches that the vault read

module _ {V : Type 0} (k : Kind V) where
  pub still_holds : (v w : V) (call : VaultCall) (answer : VaultAnswer) (m : Map nat_cmp) → Called k v call answer w → HoldsMap k v m → ((u : VaultState) → (vault_next u call answer).content ≡ u.content) → HoldsMap k w m
  still_holds v w call answer m one (u, held, is) same = (vault_next u call answer, one.holds u held, same u ∙ is)

  pub fed : (v w : V) (keys : List (Option ℕ)) (values : List (Option (List ℕ))) (m : Map nat_cmp) → Called k v (Fetch keys) (Values values) w → HoldsMap k v m → (i key : ℕ) → slice_get keys i ≡ Some (Some key) → slice_get values i ≡ Some (finite.get m key)
  fed v w keys values m one (u, held, is) i key at = (one.answered u held).asked i key at ∙ ap (λ (n : Map nat_cmp). Some (finite.get n key)) is

  -- each batch was delivered with the values of the map
  pub rest_plain : (m : Map nat_cmp) (batches : List Batch) (v w : V) → AllCalled k v (rest_fetches batches) w → HoldsMap k v m → All (IsPlain m) (rest_calls batches) × HoldsMap k w m
  rest_plain m [] v w same held = (All-nil (IsPlain m), subst (λ (x : V). HoldsMap k x m) (sym same) held)
  rest_plain m (batch ∷ batches) v w (mid, one, rest) held =
      let later : HoldsMap k mid m = still_holds v mid (Fetch batch.keys) (Values batch.values) m one held (λ u. refl) in
      let (plain, last) = rest_plain m batches mid w rest later in (
        plain_more m desk.TakeBatch (desk.Batch batch.keys) ((desk.Deliver batch.keys batch.values, desk.Done) ∷ rest_calls batches) (tt, λ d. refl) (plain_more m (desk.Deliver batch.keys batch.values) desk.Done (rest_calls batches) (fed v mid batch.keys batch.values m one held, λ d. refl) plain),
        last,
      )
