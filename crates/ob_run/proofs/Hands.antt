-- Clients made by hand: the entries that they make in their rounds.
use Rattle.std.proofs.Common.{◌≡◌, ◌∙◌, ◌<◌, ◌≤◌, ◌+◌, ◌==◌, ℕ, zero, suc, Bool, true, false, if◌then◌else◌, All, List, [], ◌∷◌, ◌++◌, length, map, slice_get, Some, refl, sym, ap, ap₂, subst, length-append, append_assoc, eqb-true, arith}
use Rattle.std.proofs.lemmas.Option.{none-some}
use Rattle.std.proofs.lemmas.List.Elements.{All-nil, All-cons, All-head, All-tail}
use mathlib.Core.List.{IsPrefix}
use Rattle.ob_turn.specs.declared.turn.Entry.{Entry}
use Rattle.ob_turn.specs.History.{entries_of}
use Rattle.ob_turn.proofs.Prefixes.{prefix_trans}
use Rattle.ob_hall.specs.Turns.{client_numbers}
use Rattle.ob_hall.specs.Passes.{Steps, Hall, Pass, opening_of, pass_place, history_of, entries_by}
use Rattle.ob_threads.specs.declared.starting.Started.{Started}
use Rattle.ob_threads.specs.declared.starting.Started.TheVariants.{Away, Here}
use Rattle.ob_threads.specs.Served.{Words}
use Rattle.ob_threads.specs.Starts.{Each, IsStepped, AreOrdered}
use Rattle.ob_driver.specs.Places.{StandIn}
use Rattle.ob_run.proofs.Keeping.{of_append}
use Rattle.ob_run.proofs.Standing.{count, count_more, count_own}
use Rattle.ob_run.proofs.Rounds.{AreStepsOf}

-- ---- lists

same_entry : (x y : Entry Steps) (xs ys : List (Entry Steps)) → ◌≡◌ {A = List (Entry Steps)} (x ∷ xs) (y ∷ ys) → x ≡ y
same_entry x y xs ys same = cc same

same_others : (x y : Entry Steps) (xs ys : List (Entry Steps)) → ◌≡◌ {A = List (Entry Steps)} (x ∷ xs) (y ∷ ys) → xs ≡ ys
same_others x y xs ys same = cc same

some_last : (xs : List (Entry Steps)) (x : Entry Steps) → ◌≡◌ {A = List (Entry Steps)} [] (xs ++ x ∷ []) → ⊥
some_last [] x same = cc same
some_last (y ∷ xs) x same = cc same

last_same : (xs ys : List (Entry Steps)) (x y : Entry Steps) → xs ++ x ∷ [] ≡ ys ++ y ∷ [] → x ≡ y
last_same [] [] x y same = same_entry x y [] [] same
last_same [] (q ∷ ys) x y same = absurd (some_last ys y (same_others x q [] (ys ++ y ∷ []) same))
last_same (p ∷ xs) [] x y same = absurd (some_last xs x (sym (same_others p y (xs ++ x ∷ []) [] same)))
last_same (p ∷ xs) (q ∷ ys) x y same = last_same xs ys x y (same_others p q (xs ++ x ∷ []) (ys ++ y ∷ []) same)

all_last : (P : Entry Steps → Type 0) (xs : List (Entry Steps)) (x : Entry Steps) → All P (xs ++ x ∷ []) → P x
all_last P [] x all = All-head P x [] all
all_last P (y ∷ xs) x all = all_last P xs x (All-tail P y (xs ++ x ∷ []) all)

pub theirs : (by : ℕ) (es : List (Entry Steps)) → All (λ (e : Entry Steps). e.by ≡ by) (entries_of by es)
theirs by [] = All-nil (λ (e : Entry Steps). e.by ≡ by)
theirs by (e ∷ es) = one (by == e.by) refl (theirs by es)
  where
    one : (b : Bool) → (by == e.by) ≡ b → All (λ (x : Entry Steps). x.by ≡ by) (entries_of by es) → All (λ (x : Entry Steps). x.by ≡ by) (if b then e ∷ entries_of by es else entries_of by es)
    one true is rest = All-cons (λ (x : Entry Steps). x.by ≡ by) e (entries_of by es) (sym (eqb-true by e.by is)) rest
    one false is rest = rest

at_end : (others : List (Entry Steps)) (e : Entry Steps) (more : List (Entry Steps)) → slice_get ((others ++ e ∷ []) ++ more) (length others) ≡ Some e
at_end [] e more = refl
at_end (x ∷ others) e more = at_end others e more

pub count_append : (by : ℕ) (xs ys : List (Entry Steps)) → count by (xs ++ ys) ≡ count by xs + count by ys
count_append by xs ys = ap length (of_append by xs ys) ∙ length-append (entries_of by xs) (entries_of by ys)

-- ---- entries in order

-- what stands in a history stands in a longer one
get_more : (xs more : List (Entry Steps)) (at : ℕ) (e : Entry Steps) → slice_get xs at ≡ Some e → slice_get (xs ++ more) at ≡ Some e
get_more [] more at e is = absurd (none-some e is)
get_more (x ∷ xs) more zero e is = is
get_more (x ∷ xs) more (suc at) e is = get_more xs more at e is

pub stand_more : (log longer : List (Entry Steps)) (n : ℕ) (es : List (Entry Steps)) (m : ℕ) → IsPrefix log longer → StandIn log n es m → StandIn longer n es m
stand_more log longer n [] m goes_on stand = stand
stand_more log longer n (e ∷ es) m goes_on (at, low, is, rest) =
    (at, low, subst (λ (l : List (Entry Steps)). slice_get l at ≡ Some e) goes_on.1 (get_more log goes_on.0 at e is), stand_more log longer (suc at) es m goes_on rest)

pub stand_join : (log : List (Entry Steps)) (n : ℕ) (xs : List (Entry Steps)) (k : ℕ) (ys : List (Entry Steps)) (m : ℕ) → StandIn log n xs k → StandIn log k ys m → StandIn log n (xs ++ ys) m
stand_join log n [] k ys m same stand = subst (λ i. StandIn log i ys m) (sym same) stand
stand_join log n (e ∷ xs) k ys m (at, low, is, rest) stand = (at, low, is, stand_join log (suc at) xs k ys m rest stand)

module _ {U Plan : Type 0} (w : Words U Plan) (hall : Hall) where
  -- the clients that are here
  abbrev pub here : List (Started U) → List (Pass × U)
  here [] = []
  here (Away handle ∷ started) = here started
  here (Here client ∷ started) = client ∷ here started

  abbrev pub StepsOnce : Pass × U → Pass × U → Type 0
  StepsOnce client now = IsStepped w hall (Here client) (Here now)

  pub here_stepped : (started next : List (Started U)) → Each (IsStepped w hall) started next → Each StepsOnce (here started) (here next)
  here_stepped [] [] each = tt
  here_stepped [] (n ∷ next) each = absurd each
  here_stepped (Away handle ∷ started) [] each = absurd each
  here_stepped (Here client ∷ started) [] each = absurd each
  here_stepped (Away handle ∷ started) (n ∷ next) (same, each) = subst (λ (x : Started U). Each StepsOnce (here started) (here (x ∷ next))) (sym same) (here_stepped started next each)
  here_stepped (Here client ∷ started) (Here now ∷ next) (one, each) = (one, here_stepped started next each)
  here_stepped (Here client ∷ started) (Away handle ∷ next) (one, each) = absurd one

  abbrev pub AreInOrder : ℕ → List (Pass × U) → ℕ → Type 0
  AreInOrder n [] m = n ≡ m
  AreInOrder n (c ∷ clients) m = (n < length (history_of c.0)) × AreInOrder (length (history_of c.0)) clients m

  pub here_ordered : (n : ℕ) (started : List (Started U)) (m : ℕ) → AreOrdered n started m → AreInOrder n (here started) m
  here_ordered n [] m order = order
  here_ordered n (Away handle ∷ started) m order = here_ordered n started m order
  here_ordered n (Here client ∷ started) m (later, order) = (later, here_ordered (length (history_of client.0)) started m order)

  -- ---- one step

  -- The pass made one entry, which is its own, and the last of the history that it has seen.
  pub record MakesEntry (before after : Pass) : Type 0 where
    pub entry : Entry Steps
    pub made : entries_by after ≡ entries_by before ++ entry ∷ []
    pub others : List (Entry Steps)
    pub ends : history_of after ≡ others ++ entry ∷ []
    pub goes_on : IsPrefix (history_of before) (history_of after)
    pub place : pass_place after ≡ pass_place before
    pub by : entry.by ≡ pass_place after

  made_entry : (client now : Pass × U) → StepsOnce client now → MakesEntry client.0 now.0
  made_entry client now s =
      let m = s.0.made.made in
      let (front, others, e, new_is, history_is) = m.last in
      let same : e ≡ s.2.step = last_same (entries_by client.0 ++ front) (entries_by client.0) e s.2.step
      (append_assoc (entries_by client.0) front (e ∷ []) ∙ (ap (λ (l : List (Entry Steps)). entries_by client.0 ++ l) (sym new_is) ∙ (sym m.made ∙ s.2.made))) in
      record {
        entry = s.2.step;
        made = s.2.made;
        others = others;
        ends = history_is ∙ ap (λ (x : Entry Steps). others ++ x ∷ []) same;
        goes_on = m.goes_on;
        place = m.place;
        by = all_last (λ (x : Entry Steps). x.by ≡ pass_place now.0) (entries_by client.0) s.2.step
            (subst (All (λ (x : Entry Steps). x.by ≡ pass_place now.0)) (m.own ∙ s.2.made) (theirs (pass_place now.0) (history_of now.0)));
      }

  -- ---- the steps of a round

  -- the client has its place, and no more entries than it had and these have of it
  abbrev pub Gained : List (Entry Steps) → Pass × U → Pass × U → Type 0
  Gained es client now = (pass_place now.0 ≡ pass_place client.0) × (length (entries_by now.0) ≤ length (entries_by client.0) + count (pass_place client.0) es)

  pub gained_same : (es : List (Entry Steps)) (clients : List (Pass × U)) → Each (Gained es) clients clients
  gained_same es [] = tt
  gained_same es (c ∷ clients) = ((refl, omega arith), gained_same es clients)

  gained_more : (e : Entry Steps) (es : List (Entry Steps)) (clients now : List (Pass × U)) → Each (Gained es) clients now → Each (Gained (e ∷ es)) clients now
  gained_more e es [] [] each = tt
  gained_more e es [] (n ∷ now) each = absurd each
  gained_more e es (c ∷ clients) [] each = absurd each
  gained_more e es (c ∷ clients) (n ∷ now) ((place, few), each) = ((place, (let more = count_more (pass_place c.0) e es in omega (arith, few, more))), gained_more e es clients now each)

  pub gained_join : (xs ys : List (Entry Steps)) (clients mid now : List (Pass × U)) → Each (Gained xs) clients mid → Each (Gained ys) mid now → Each (Gained (xs ++ ys)) clients now
  gained_join xs ys [] [] [] one other = tt
  gained_join xs ys [] [] (n ∷ now) one other = absurd other
  gained_join xs ys [] (m ∷ mid) now one other = absurd one
  gained_join xs ys (c ∷ clients) [] now one other = absurd one
  gained_join xs ys (c ∷ clients) (m ∷ mid) [] one other = absurd other
  gained_join xs ys (c ∷ clients) (m ∷ mid) (n ∷ now) ((place, few), one) ((later, more), other) = (
    (
      later ∙ place,
      (let less = subst (λ by. length (entries_by n.0) ≤ length (entries_by m.0) + count by ys) place more in
          let sum = count_append (pass_place c.0) xs ys in
          omega (arith, few, less, sum)),
    ),
    gained_join xs ys clients mid now one other,
  )

  abbrev pub numbers_of : List (Pass × U) → List ℕ
  numbers_of clients = map (λ (c : Pass × U). c.0.client) clients

  module _ (log : List (Entry Steps)) where
    -- the history begins with what the client's pass has seen
    abbrev pub IsSeen : Pass × U → Type 0
    IsSeen client = IsPrefix (history_of client.0) log

    -- An entry of each of these clients, in order, from place n to place m.
    pub record StepsInOrder (n : ℕ) (clients now : List (Pass × U)) (m : ℕ) : Type 0 where
      pub entries : List (Entry Steps)
      pub stand : StandIn log n entries m
      pub are : AreStepsOf (client_numbers (opening_of hall)) (numbers_of clients) entries
      pub gained : Each (Gained entries) clients now
      pub seen : All IsSeen clients
      pub same : numbers_of now ≡ numbers_of clients

    pub in_order : (n : ℕ) (clients now : List (Pass × U)) (m : ℕ) → Each StepsOnce clients now → AreInOrder n now m → All IsSeen now → StepsInOrder n clients now m
    in_order n [] [] m each order seen = record { entries = []; stand = order; are = tt; gained = tt; seen = All-nil IsSeen; same = refl }
    in_order n [] (x ∷ now) m each order seen = absurd each
    in_order n (c ∷ clients) [] m each order seen = absurd each
    in_order n (c ∷ clients) (x ∷ now) m (one, each) (later, order) seen =
        let e = made_entry c x one in
        let long : length (history_of x.0) ≡ suc (length e.others) = ap length e.ends ∙ (length-append e.others (e.entry ∷ []) ∙ (let plus : length e.others + 1 ≡ suc (length e.others) = omega arith in plus)) in
        let its : IsPrefix (history_of x.0) log = All-head IsSeen x now seen in
        let here_is : slice_get log (length e.others) ≡ Some e.entry = subst (λ (l : List (Entry Steps)). slice_get l (length e.others) ≡ Some e.entry) (ap (λ (l : List (Entry Steps)). l ++ its.0) (sym e.ends) ∙ its.1) (at_end e.others e.entry its.0) in
        let rest = in_order (length (history_of x.0)) clients now m each order (All-tail IsSeen x now seen) in
        let named = one.0.is_client.ready.clients in
        let number : x.0.client ≡ c.0.client = one.0.made.made.client in
        let by : e.entry.by ≡ pass_place c.0 = e.by ∙ e.place in
        record {
          entries = e.entry ∷ rest.entries;
          stand = (length e.others, omega (arith, later, long), here_is, subst (λ k. StandIn log k rest.entries m) long rest.stand);
          are = ((named.at, e.by ∙ named.place, named.named ∙ ap (λ k. Some k) number), rest.are);
          gained = (
            (
              e.place,
              (let long = ap length e.made ∙ length-append (entries_by c.0) (e.entry ∷ []) in
                  let own = subst (λ k. count k (e.entry ∷ rest.entries) ≡ suc (count k rest.entries)) by (count_own e.entry rest.entries) in
                  omega (arith, long, own)),
            ),
            gained_more e.entry rest.entries clients now rest.gained,
          );
          seen = All-cons IsSeen c clients (prefix_trans (history_of c.0) (history_of x.0) log e.goes_on its) rest.seen;
          same = ap₂ (λ (k : ℕ) (l : List ℕ). k ∷ l) number rest.same;
        }
