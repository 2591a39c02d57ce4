-- A seat that takes in another, and the end.
use Rattle.std.proofs.Common.{◌≡◌, ◌≢◌, ℕ, ◌<◌, ◌≤◌, List, [], ◌∷◌, ◌++◌, set, refl, ap, sym, ◌∙◌, subst, arith, ⊎_elim, Option}
use mathlib.Core.Option.{Option as Opt, some, none, some-injective, some-ne-none}
use mathlib.Core.Logic.{dite}
use native.Mathlib.Decide.{ℕ_discrete}
use lib.ListN.{get_elem?}
use Rattle.atomic_table.specs.Table.{State, Me, Joins, Final, Seen}
use Rattle.atomic_table.proofs.Lists.{at_set}
use Rattle.ob_turn.specs.declared.turn.Entry.{Entry}
use Rattle.ob_turn.specs.declared.turn.Joined.{Joined}
use Rattle.ob_turn.specs.declared.turn.View.{View}
use Rattle.ob_turn.specs.declared.turn.Stage.TheVariants.{Idle, Inside}
use Rattle.ob_turn.specs.declared.turn.Slot.{Slot}
use Rattle.ob_turn.specs.History.{entries_of, LeadsByTurns, LeadsFromOpening, TellsOf, TellsSeats}
use Rattle.ob_turn.specs.TurnRule.{value_in, queued, readied, HasTicket, HasName, parts_of, queued_of, readied_of, FitsStage, IsJoinedAway, SeatFits, TurnKept, both_views, spent_view, joined_of}
use Rattle.std.specs.List.{All}
use Rattle.std.proofs.lemmas.List.Elements.{All-nil, All-append, All-push, All-weaker}
use Rattle.ob_turn.proofs.Prefixes.{longer-prefix}
use Rattle.ob_turn.proofs.Totals.{total_set, total_two, stay, unique_set, unique_same}
use Rattle.ob_turn.proofs.TurnSteps.{home_stays}

module _ (T E : Type 0) (steps : ℕ → T → E → T → Type 0) (opened : T) (seats : ℕ) where
  abbrev P : Type 0
  P = View T E

  abbrev S : Type 0
  S = State (Slot T E) (View T E)

  abbrev M : Type 0
  M = Me (Slot T E) (View T E)

  abbrev Rule : S → Type 0
  Rule s = TurnKept steps opened seats s

  -- What the rule says of a seat's part of the history.
  tells : (s : S) (r : Rule s) (id : ℕ) (v : P) (x : T) → get_elem? s.views id ≡ some v → 0 < v.parts → LeadsByTurns steps opened r.log x → TellsSeats steps r.log x v
  tells s r id v x at some_part led = let fit = r.each id v at in record {
    seat = record { legal = subst (λ (o : Option T). LeadsFromOpening steps o r.log x) (sym (fit.opening_is some_part)) led; prefix = fit.prefix; own = (fit.named some_part).1 };
    joined = All-weaker (IsJoinedAway opened r.log r.names s.views) (λ (j : Joined T E). TellsOf steps r.log x j.opening j.by j.seen j.mine)
        (λ j q. record { legal = subst (λ (o : Option T). LeadsFromOpening steps o r.log x) (sym q.opening_is) led; prefix = q.prefix; own = q.own }) v.joined (r.settled id v at);
  }

  -- the name that no other seat has before is no seat's after
  unnamed_joined : (s : S) (id : ℕ) (v : P) (other : ℕ) (w : P) → 0 < v.parts → get_elem? s.views id ≡ some v → ¬ (other ≡ id) → (by : ℕ)
      → ((n : ℕ) (u : P) → n ≢ other → get_elem? s.views n ≡ some u → 0 < u.parts → u.by ≡ by → ⊥)
      → (n : ℕ) (u : P) → get_elem? (set (set s.views id (both_views v w)) other spent_view) n ≡ some u → 0 < u.parts → u.by ≡ by → ⊥
  unnamed_joined s id v other w some_part at apart by before = stay (λ (n : ℕ) (z : P). 0 < z.parts → z.by ≡ by → ⊥) (set s.views id (both_views v w)) other spent_view
      (λ p _. omega (arith, p))
      (λ n z ne q. stay (λ (n : ℕ) (z : P). n ≢ other → 0 < z.parts → z.by ≡ by → ⊥) s.views id (both_views v w) (λ m _ e. before id v m at some_part e) (λ n z _ q m p e. before n z m q p e) n z q ne)

  -- Those joined before are settled, and so is the one that was joined last.
  settled_joined : (s : S) (r : Rule s) (id : ℕ) (v : P) (other : ℕ) (w : P) → 0 < v.parts → 0 < w.parts → get_elem? s.views id ≡ some v → ¬ (other ≡ id) → get_elem? s.views other ≡ some w
      → (i : ℕ) (u : P) → get_elem? (set (set s.views id (both_views v w)) other spent_view) i ≡ some u
      → All (IsJoinedAway opened r.log r.names (set (set s.views id (both_views v w)) other spent_view)) u.joined
  settled_joined s r id v other w some_part its_part at apart was i u ati =
      let views' : List P = set (set s.views id (both_views v w)) other spent_view in
      let S0 : Joined T E → Type 0 = IsJoinedAway opened r.log r.names s.views in
      let S1 : Joined T E → Type 0 = IsJoinedAway opened r.log r.names views' in
      let carry : (l : List (Joined T E)) → All S0 l → All S1 l =
      λ l h. All-weaker S0 S1 (λ gone t. record { opening_is = t.opening_is; prefix = t.prefix; named = t.named; own = t.own; no_seat = unnamed_joined s id v other w some_part at apart gone.by (λ n z _ q p e. t.no_seat n z q p e) }) l h in
      let fit = r.each other w was in
      let named = fit.named its_part in
      let last : S1 (joined_of w) = record {
        opening_is = fit.opening_is its_part;
        prefix = fit.prefix;
        named = named.0;
        own = named.1;
        no_seat = unnamed_joined s id v other w some_part at apart w.by (λ n z ne q p same. ne (r.one_name n other w.by z w q was (p, same) (its_part, refl)));
      } in
      stay (λ (n : ℕ) (z : P). All S1 z.joined) (set s.views id (both_views v w)) other spent_view (All-nil S1)
      (λ n z _ q. stay (λ (n : ℕ) (z : P). All S1 z.joined) s.views id (both_views v w)
      (All-append S1 v.joined (w.joined ++ joined_of w ∷ []) (carry v.joined (r.settled id v at)) (All-push S1 w.joined (joined_of w) (carry w.joined (r.settled other w was)) last))
      (λ n z _ q. carry z.joined (r.settled n z q)) n z q)
      i u ati

  pub joins : (id : ℕ) (v : P) (other : ℕ) (w : P) → v.stage ≡ Idle → w.stage ≡ Idle → 0 < v.parts → 0 < w.parts → Joins {S = Slot T E} Rule id v other w (both_views v w) spent_view
  joins id v other w is its some_part its_part s r at apart there =
      let both : P = both_views v w in
      let gone : P = spent_view in
      let one : List P = set s.views id both in
      let two : List P = set one other gone in
      let was : get_elem? s.views other ≡ some w = ⊎_elim (λ t. absurd (apart t.0)) (λ t. t.1) (at_set s.views id other both w there) in
      let fit = r.each id v at in
      let fitw = r.each other w was in
      let a : queued v.stage ≡ 0 = ap queued is in
      let b : queued w.stage ≡ 0 = ap queued its in
      let c : readied v.stage ≡ 0 = ap readied is in
      let d : readied w.stage ≡ 0 = ap readied its in
      record {
        log = r.log;
        ticket = r.ticket;
        cutter = r.cutter;
        names = r.names;
        some_seat = r.some_seat;
        few = r.few;
        words = r.words;
        parts = omega (arith, total_set parts_of s.views id v both at, total_set parts_of one other w gone there, r.parts);
        queue = omega (arith, total_set queued_of s.views id v both at, total_set queued_of one other w gone there, r.queue, b);
        bound = omega (arith, total_set readied_of s.views id v both at, total_set readied_of one other w gone there, r.bound, d);
        each = stay (SeatFits opened r.log r.ticket r.cutter r.names seats) one other gone
            record { opening_is = λ p. absurd (omega (arith, p)); prefix = (r.log, refl); named = λ p. absurd (omega (arith, p)); cuts = λ e. absurd (cc e); stage = tt }
            (λ j u _ q. stay (SeatFits opened r.log r.ticket r.cutter r.names seats) s.views id both
            record {
              opening_is = λ _. fit.opening_is some_part;
              prefix = longer-prefix v.seen w.seen r.log fit.prefix fitw.prefix;
              named = λ _. fit.named some_part;
              cuts = λ e. absurd (cc e);
              stage = subst (FitsStage r.log r.ticket both) (sym is) tt;
            }
            (λ j u _ e. r.each j u e) j u q);
        one_turn = unique_set HasTicket one other gone (unique_same HasTicket s.views id v both r.one_turn at (λ k h. h)) (λ k j u h _ _ _. h);
        one_name = unique_set HasName one other gone (unique_same HasName s.views id v both r.one_name at (λ k h. (some_part, h.1))) (λ k j u h _ _ _. let p = h.0 in omega (arith, p));
        settled = settled_joined s r id v other w some_part its_part at apart was;
        covered = r.covered;
        legal = r.legal;
        unnamed = r.unnamed;
        home = home_stays T E steps opened seats r.log s.homes one other w gone there (λ k e. cc (its, e)) (λ k e. cc e)
            (home_stays T E steps opened seats r.log s.homes s.views id v both at (λ k e. cc (is, e)) (λ k e. cc (is, e)) r.home);
      }

  idle_others : (s : S) (r : Rule s) (id : ℕ) (v : P) → get_elem? s.views id ≡ some v → v.parts ≡ seats → (j : ℕ) (u : P) → j ≢ id → get_elem? s.views j ≡ some u → u.parts ≡ 0
  idle_others s r id v at all j u ne a = let two = total_two parts_of s.views j id u v ne a at in omega (arith, two, all, r.parts)

  none_inside : (s : S) (r : Rule s) (id : ℕ) (v : P) → get_elem? s.views id ≡ some v → v.parts ≡ seats → v.stage ≡ Idle → (j k : ℕ) (u : P) → get_elem? s.views j ≡ some u → u.stage ≡ Inside k → ⊥
  none_inside s r id v at all is j k u a e = dite (ℕ_discrete j id)
      (λ same. let one : u ≡ v = some-injective u v (sym a ∙ (ap (get_elem? s.views) same ∙ at)) in let stages : Inside k ≡ Idle = sym e ∙ (ap (λ (z : P). z.stage) one ∙ is) in cc stages)
      (λ ne.
      let f : FitsStage r.log r.ticket u (Inside k) = subst (FitsStage r.log r.ticket u) e (r.each j u a).stage in
      let p : 0 < u.parts = f.2 in
      omega (arith, p, idle_others s r id v at all j u ne a))

  -- The value that comes out at the end is what the whole history leads to.
  pub ends : (id : ℕ) (v : P) (ws : List ℕ) (xs : List (Slot T E)) → v.parts ≡ seats → v.stage ≡ Idle → Final (Seen Rule id v) ws xs
      → (y : Slot T E) × (x : T) × (get_elem? xs 0 ≡ some y) × (value_in y ≡ some x) × (log : List (Entry E)) × TellsSeats steps log x v × ((by : ℕ) → seats ≤ by → entries_of by log ≡ [])
  ends id v ws xs all is f =
      let s : S = f.0 in
      let r : Rule s = f.1.0 in
      let at = f.1.1 in
      let some_part : 0 < v.parts = let n = r.some_seat in omega (arith, all, n) in
      let t = ⊎_elim {C = (y : Slot T E) × (x : T) × (s.homes ≡ some y ∷ []) × (value_in y ≡ some x) × LeadsByTurns steps opened r.log x}
      (λ t. (t.0, t.1, t.2, t.3, t.4)) (λ t. absurd (none_inside s r id v at all is t.1.0 t.1.1 t.1.2 t.1.3 t.1.4)) r.home in (
        t.0,
        t.1,
        f.4 0 t.0 (ap (λ (l : List (Opt (Slot T E))). get_elem? l 0) t.2),
        t.3,
        r.log,
        tells s r id v t.1 at some_part t.4,
        λ by above. let c = r.covered in r.unnamed by (omega (arith, c, above)),
      )

  pub comes_out : (id : ℕ) (v : P) (ws : List ℕ) (xs : List (Slot T E)) → v.parts ≡ seats → v.stage ≡ Idle → Final (Seen Rule id v) ws xs
      → (slot : Slot T E) (x : T) → get_elem? xs 0 ≡ some slot → value_in slot ≡ some x → (log : List (Entry E)) × TellsSeats steps log x v × ((by : ℕ) → seats ≤ by → entries_of by log ≡ [])
  comes_out id v ws xs all is f slot x at has =
      let e = ends id v ws xs all is f in
      let same : slot ≡ e.0 = some-injective slot e.0 (sym at ∙ e.2) in
      let value : x ≡ e.1 = some-injective x e.1 (sym has ∙ (ap value_in same ∙ e.3)) in
      (e.4, subst (λ (y : T). TellsSeats steps e.4 y v) (sym value) e.5, e.6)

  -- The slot has a value at the end.
  pub never_empty : (id : ℕ) (v : P) (ws : List ℕ) (xs : List (Slot T E)) → v.parts ≡ seats → v.stage ≡ Idle → Final (Seen Rule id v) ws xs
      → (slot : Slot T E) → get_elem? xs 0 ≡ some slot → value_in slot ≡ none → ⊥
  never_empty id v ws xs all is f slot at empty =
      let e = ends id v ws xs all is f in
      let same : slot ≡ e.0 = some-injective slot e.0 (sym at ∙ e.2) in
      some-ne-none e.1 (sym e.3 ∙ (ap value_in (sym same) ∙ empty))
