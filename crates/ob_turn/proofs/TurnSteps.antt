-- Each step of the turn keeps its rule.
use Rattle.std.proofs.Common.{◌≡◌, ◌≢◌, ℕ, ◌+◌, ◌%◌, ◌^◌, ◌<◌, ◌≤◌, List, [], ◌∷◌, ◌++◌, length, set, slice_set, slice_index, refl, ap, sym, ◌∙◌, subst, arith, inl, inr, ⊎_elim, length-append, lt_of_not-le, Option}
use mathlib.Core.Option.{Option as Opt, some, none, some-injective}
use mathlib.Core.List.{IsPrefix}
use mathlib.Core.Logic.{dite}
use native.Mathlib.Decide.{ℕ_discrete, dec_le}
use lib.ListN.{get_elem?}
use Rattle.std.specs.declared.snapshot.Snapshot.{Snapshot}
use Rattle.atomic_table.specs.Table.{State, Me, step, keeps, takes, gives, stepped, put_back, rest, Allows}
use Rattle.atomic_table.proofs.Lists.{set_again, set_else}
use Rattle.ob_turn.specs.declared.turn.Entry.{Entry}
use Rattle.ob_turn.specs.declared.turn.View.{View}
use Rattle.ob_turn.specs.declared.turn.Stage.{Stage}
use Rattle.ob_turn.specs.declared.turn.Stage.TheVariants.{Idle, Ready, Waiting, Inside}
use Rattle.ob_turn.specs.declared.turn.Slot.{Slot}
use Rattle.ob_turn.specs.declared.turn.Slot.TheVariants.{Noted, Leaves}
use Rattle.ob_turn.specs.declared.turn.Joined.{Joined}
use Rattle.ob_turn.specs.History.{entry, entries_of, HasPart, LeadsByTurns, LeadsFromOpening, IsAt}
use Rattle.ob_turn.specs.TurnRule.{value_in, queued, readied, HasTicketAt, total, HasTicket, HasName, parts_of, queued_of, readied_of, staged, FitsStage, IsJoinedAway, SeatFits, Home, TurnKept, Entered, Watches, Arrives, Draws, noting, NotesStep, left, GoesStep}
use Rattle.ob_turn.proofs.Entries.{entries-same, entries-other, stands-snoc}
use Rattle.ob_turn.proofs.Prefixes.{prefix_self, prefix_snoc}
use Rattle.std.specs.List.{All}
use Rattle.std.proofs.lemmas.List.Elements.{All-weaker}
use Rattle.ob_turn.proofs.Totals.{total_set, total_at, total_le, set_there, stay, unique_set, unique_same}

module _ {T E : Type 0} where
  ready_le : (log : List (Entry E)) (ticket : ℕ) (v : View T E) (st : Stage) → FitsStage log ticket v st → readied st ≤ v.parts
  ready_le log ticket v Idle h = omega arith
  ready_le log ticket v Ready h = omega (arith, h)
  ready_le log ticket v (Waiting k) h = omega arith
  ready_le log ticket v (Inside k) h = omega arith

  later : (log : List (Entry E)) (ticket : ℕ) (v : View T E) (st : Stage) → FitsStage log ticket v st → FitsStage log (ticket + 1) v st
  later log ticket v Idle h = tt
  later log ticket v Ready h = h
  later log ticket v (Waiting k) h = let a = h.1 in (h.0, omega (arith, a), h.2)
  later log ticket v (Inside k) h = let a = h.1 in (h.0, omega (arith, a), h.2, h.3)

  below : (log : List (Entry E)) (ticket k : ℕ) (v : View T E) (st : Stage) → FitsStage log ticket v st → HasTicketAt st k → k < ticket
  below log ticket k v Idle h a = absurd a
  below log ticket k v Ready h a = absurd a
  below log ticket k v (Waiting n) h a = let b = h.1 in omega (arith, a, b)
  below log ticket k v (Inside n) h a = let b = h.1 in omega (arith, a, b)

  -- a seat that is behind the one that leaves waits on
  pub others_wait : (log log' : List (Entry E)) (ticket k : ℕ) (u : View T E) → k ≡ length log → length log' ≡ length log + 1 → (st : Stage) → FitsStage log ticket u st
      → ((m : ℕ) → HasTicketAt st m → m ≡ k → ⊥) → FitsStage log' ticket u st
  others_wait log log' ticket k u here long Idle f not = tt
  others_wait log log' ticket k u here long Ready f not = f
  others_wait log log' ticket k u here long (Waiting m) f not =
      let a = f.0 in
      let ne : m ≢ k = not m refl in
      (omega (arith, a, ne, here, long), f.1, f.2)
  others_wait log log' ticket k u here long (Inside m) f not = absurd (not m refl (f.0 ∙ sym here))

module _ (T E : Type 0) (steps : ℕ → T → E → T → Type 0) (opened : T) (seats : ℕ) where
  abbrev P : Type 0
  P = View T E

  abbrev S : Type 0
  S = State (Slot T E) (View T E)

  abbrev M : Type 0
  M = Me (Slot T E) (View T E)

  abbrev Rule : S → Type 0
  Rule s = TurnKept steps opened seats s

  abbrev NotInside : P → Type 0
  NotInside v = (k : ℕ) → v.stage ≢ Inside k

  pub home_stays : (log : List (Entry E)) (homes : List (Opt (Slot T E))) (views : List P) (id : ℕ) (v w : P) → get_elem? views id ≡ some v → NotInside v → NotInside w
      → Home steps opened log homes views → Home steps opened log homes (set views id w)
  home_stays log homes views id v w at nv nw h = ⊎_elim
      (λ t. inl (t.0, t.1, t.2, t.3, t.4, λ by k u e. stay (λ (j : ℕ) (z : P). (z.stage ≢ Inside k)) views id w (nw k) (λ j z _ a. t.5 j k z a) by u e))
      (λ t. let x = t.1 in inr (
        t.0,
        (
          x.0,
          x.1,
          x.2,
          set_else views id x.0 w (λ same. let u : x.2 ≡ v = some-injective x.2 v (sym x.3 ∙ (ap (get_elem? views) same ∙ at)) in nv x.1 (ap (λ (z : P). z.stage) (sym u) ∙ x.4)) ∙ x.3,
          x.4,
        ),
      ))
      h

  -- What was settled stays so, where a seat keeps its caller and what it knows of those joined into it.
  settled_one : (log : List (Entry E)) (names : ℕ) (views : List P) (id : ℕ) (v w : P) → get_elem? views id ≡ some v → (0 < w.parts → (0 < v.parts) × (w.by ≡ v.by))
      → (gone : Joined T E) → IsJoinedAway opened log names views gone → IsJoinedAway opened log names (set views id w) gone
  settled_one log names views id v w at named gone s = record {
    opening_is = s.opening_is;
    prefix = s.prefix;
    named = s.named;
    own = s.own;
    no_seat = stay (λ (n : ℕ) (z : P). 0 < z.parts → z.by ≡ gone.by → ⊥) views id w
        (λ p e. let n = named p in s.no_seat id v at n.0 (sym n.1 ∙ e)) (λ n z _ b p e. s.no_seat n z b p e);
  }

  pub settled_stays : (log : List (Entry E)) (names : ℕ) (views : List P) (id : ℕ) (v w : P) → get_elem? views id ≡ some v → w.joined ≡ v.joined → (0 < w.parts → (0 < v.parts) × (w.by ≡ v.by))
      → ((i : ℕ) (u : P) → get_elem? views i ≡ some u → All (IsJoinedAway opened log names views) u.joined)
      → (i : ℕ) (u : P) → get_elem? (set views id w) i ≡ some u → All (IsJoinedAway opened log names (set views id w)) u.joined
  settled_stays log names views id v w at joined named old i u ati =
      All-weaker (IsJoinedAway opened log names views) (IsJoinedAway opened log names (set views id w)) (settled_one log names views id v w at named) u.joined
      (stay (λ (n : ℕ) (z : P). All (IsJoinedAway opened log names views) z.joined) views id w
      (subst (All (IsJoinedAway opened log names views)) (sym joined) (old id v at)) (λ n z _ b. old n z b) i u ati)

  pub arrives : (slots id : ℕ) (me : M) → me.0.stage ≡ Idle → 0 < me.0.parts → Allows Rule slots id me 0 (λ n. n) (Arrives (step slots 0 0 0 none) me)
  arrives slots id me is some_part s r _ at _ =
      let v : P = me.0 in
      let found : slice_index s.words 0 ≡ r.ticket = ap (λ (l : List ℕ). slice_index l 0) r.words in
      let same : slice_set s.words 0 (slice_index s.words 0) ≡ s.words = subst (λ (l : List ℕ). slice_set l 0 (slice_index l 0) ≡ l) (sym r.words) refl in
      dite (dec_le (2 ^ 63) (slice_index s.words 0))
      (λ late. (
        v,
        keeps,
        tt,
        subst Rule (λ i. record { words = sym same i; homes = s.homes; views = sym (set_again s.views id v at) i }) r,
        (refl, (λ early. absurd (omega (arith, late, early))), λ _. refl),
      ))
      (λ early.
      let w : P = staged v Ready in
      let fit = r.each id v at in
      let each' : (j : ℕ) (u : P) → get_elem? (set s.views id w) j ≡ some u → SeatFits opened r.log r.ticket r.cutter r.names seats j u =
      stay (SeatFits opened r.log r.ticket r.cutter r.names seats) s.views id w
      record { opening_is = fit.opening_is; prefix = fit.prefix; named = fit.named; cuts = fit.cuts; stage = some_part }
      (λ j u _ e. r.each j u e) in
      let parts : total parts_of (set s.views id w) ≡ seats = omega (arith, total_set parts_of s.views id v w at, r.parts) in
      let few : total readied_of (set s.views id w) ≤ total parts_of (set s.views id w) = total_le readied_of parts_of (set s.views id w) (λ j u e. ready_le r.log r.ticket u u.stage (each' j u e).stage) in
      let was : queued v.stage ≡ 0 = ap queued is in (
        w,
        keeps,
        tt,
        record {
          log = r.log;
          ticket = r.ticket;
          cutter = r.cutter;
          names = r.names;
          some_seat = r.some_seat;
          few = r.few;
          words = same ∙ r.words;
          parts = parts;
          queue = omega (arith, total_set queued_of s.views id v w at, was, r.queue);
          bound = omega (arith, few, parts, found, lt_of_not-le early);
          each = each';
          one_turn = unique_set HasTicket s.views id w r.one_turn (λ k j u h _ _ _. h);
          one_name = unique_same HasName s.views id v w r.one_name at (λ k h. h);
          settled = settled_stays r.log r.names s.views id v w at refl (λ p. (p, refl)) r.settled;
          covered = r.covered;
          legal = r.legal;
          unnamed = r.unnamed;
          home = home_stays r.log s.homes s.views id v w at (λ k e. absurd (cc (is, e))) (λ k e. absurd (cc e)) r.home;
        },
        (refl, (λ _. refl), λ late. absurd (early late)),
      ))

  pub draws : (slots id : ℕ) (me : M) → me.0.stage ≡ Ready → Allows Rule slots id me 0 (λ n. (n + 1) % 2 ^ 64) (Draws (step slots 0 1 0 none) me)
  draws slots id me is s r _ at _ =
      let v : P = me.0 in
      let n : ℕ = slice_index s.words 0 in
      let found : n ≡ r.ticket = ap (λ (l : List ℕ). slice_index l 0) r.words in
      let w : P = staged v (Waiting n) in
      let fit = r.each id v at in
      let some_part : 0 < v.parts = subst (FitsStage r.log r.ticket v) is fit.stage in
      let ready : readied v.stage ≡ 1 = ap readied is in
      let waits : queued v.stage ≡ 0 = ap queued is in
      let one : readied v.stage ≤ total readied_of s.views = total_at readied_of s.views id v at in
      let fits : (n + 1) % 2 ^ 64 ≡ r.ticket + 1 = grind (arith, found, one, ready, r.bound, r.few) in
      let each' : (j : ℕ) (u : P) → get_elem? (set s.views id w) j ≡ some u → SeatFits opened r.log (r.ticket + 1) r.cutter r.names seats j u =
      stay (SeatFits opened r.log (r.ticket + 1) r.cutter r.names seats) s.views id w
      record { opening_is = fit.opening_is; prefix = fit.prefix; named = fit.named; cuts = fit.cuts; stage = (omega (arith, r.queue, found), omega (arith, found), some_part) }
      (λ j u _ e. let f = r.each j u e in record { opening_is = f.opening_is; prefix = f.prefix; named = f.named; cuts = f.cuts; stage = later r.log r.ticket u u.stage f.stage }) in (
        w,
        keeps,
        tt,
        record {
          log = r.log;
          ticket = r.ticket + 1;
          cutter = r.cutter;
          names = r.names;
          some_seat = r.some_seat;
          few = r.few;
          words = subst (λ (l : List ℕ). slice_set l 0 ((n + 1) % 2 ^ 64) ≡ (r.ticket + 1) ∷ length r.log ∷ []) (sym r.words) (ap (λ (k : ℕ). k ∷ length r.log ∷ []) fits);
          parts = omega (arith, total_set parts_of s.views id v w at, r.parts);
          queue = omega (arith, total_set queued_of s.views id v w at, waits, r.queue);
          bound = omega (arith, total_set readied_of s.views id v w at, ready, r.bound);
          each = each';
          one_turn = unique_set HasTicket s.views id w r.one_turn (λ k j u h _ e a. let b = below r.log r.ticket k u u.stage (r.each j u e).stage a in absurd (omega (arith, h, found, b)));
          one_name = unique_same HasName s.views id v w r.one_name at (λ k h. h);
          settled = settled_stays r.log r.names s.views id v w at refl (λ p. (p, refl)) r.settled;
          covered = r.covered;
          legal = r.legal;
          unnamed = r.unnamed;
          home = home_stays r.log s.homes s.views id v w at (λ k e. absurd (cc (is, e))) (λ k e. absurd (cc e)) r.home;
        },
        refl,
      )

  -- the one whose turn it is, where the value is out
  out_by : (s : S) (r : Rule s) (id k : ℕ) (v : P) → get_elem? s.views id ≡ some v → v.stage ≡ Waiting k → k ≡ length r.log
      → (homes : List (Opt (Slot T E))) → ((homes ≡ none ∷ []) × ((by n : ℕ) × (u : P) × (get_elem? s.views by ≡ some u) × (u.stage ≡ Inside n))) → ⊥
  out_by s r id k v at is here homes t =
      let by : ℕ = t.1.0 in
      let n : ℕ = t.1.1 in
      let u : P = t.1.2 in
      let there = t.1.3 in
      let inside : u.stage ≡ Inside n = t.1.4 in
      let fit : FitsStage r.log r.ticket u (Inside n) = subst (FitsStage r.log r.ticket u) inside (r.each by u there).stage in
      let same : n ≡ k = fit.0 ∙ sym here in
      let one : by ≡ id = r.one_turn by id k u v there at (subst (λ (z : Stage). HasTicketAt z k) (sym inside) same) (subst (λ (z : Stage). HasTicketAt z k) (sym is) refl) in
      let both : u ≡ v = some-injective u v (sym there ∙ (ap (get_elem? s.views) one ∙ at)) in
      let stages : Inside n ≡ Waiting k = sym inside ∙ (ap (λ (z : P). z.stage) both ∙ is) in
      cc stages

  waiting-injective : (a b : ℕ) → Waiting a ≡ Waiting b → a ≡ b
  waiting-injective a b e = cc e

  enters : (s : S) (r : Rule s) (id k : ℕ) (me : M) → get_elem? s.views id ≡ some me.0 → me.0.stage ≡ Waiting k → slice_index s.words 1 ≡ k
      → ((y : Slot T E) × (x : T) × (s.homes ≡ some y ∷ []) × (value_in y ≡ some x) × LeadsByTurns steps opened r.log x × ((by n : ℕ) (u : P) → get_elem? s.views by ≡ some u → u.stage ≢ Inside n))
      → (w : P) × (y : Slot T E) × (get_elem? s.homes 0 ≡ some (some y)) × Rule (stepped s 1 (slice_index s.words 1) id me.1 w (takes 0 y)) × Entered steps me k (w, (0, y) ∷ me.1)
  enters s r id k me at is found t =
      let v : P = me.0 in
      let y : Slot T E = t.0 in
      let w : P = record v { stage = Inside k; noted = []; seen = r.log } in
      let fit = r.each id v at in
      let stage : FitsStage r.log r.ticket v (Waiting k) = subst (FitsStage r.log r.ticket v) is fit.stage in
      let now : slice_index s.words 1 ≡ length r.log = ap (λ (l : List ℕ). slice_index l 1) r.words in
      let same : slice_set s.words 1 (slice_index s.words 1) ≡ s.words = subst (λ (l : List ℕ). slice_set l 1 (slice_index l 1) ≡ l) (sym r.words) refl in
      let waits : queued v.stage ≡ 1 = ap queued is in
      let unready : readied v.stage ≡ 0 = ap readied is in
      let led : LeadsFromOpening steps v.opening r.log t.1 = subst (λ (o : Option T). LeadsFromOpening steps o r.log t.1) (sym (fit.opening_is stage.2)) t.4 in (
        w,
        y,
        ap (λ (l : List (Opt (Slot T E))). get_elem? l 0) t.2,
        record {
          log = r.log;
          ticket = r.ticket;
          cutter = r.cutter;
          names = r.names;
          some_seat = r.some_seat;
          few = r.few;
          words = same ∙ r.words;
          parts = omega (arith, total_set parts_of s.views id v w at, r.parts);
          queue = omega (arith, total_set queued_of s.views id v w at, waits, r.queue);
          bound = omega (arith, total_set readied_of s.views id v w at, unready, r.bound);
          each = stay (SeatFits opened r.log r.ticket r.cutter r.names seats) s.views id w
              record { opening_is = fit.opening_is; prefix = prefix_self r.log; named = fit.named; cuts = fit.cuts; stage = (sym found ∙ now, stage.1, stage.2, refl) }
              (λ j u _ e. r.each j u e);
          one_turn = unique_same HasTicket s.views id v w r.one_turn at (λ n h. subst (λ (z : Stage). HasTicketAt z n) (sym is) h);
          one_name = unique_same HasName s.views id v w r.one_name at (λ n h. h);
          settled = settled_stays r.log r.names s.views id v w at refl (λ p. (p, refl)) r.settled;
          covered = r.covered;
          legal = r.legal;
          unnamed = r.unnamed;
          home = inr (ap (λ (l : List (Opt (Slot T E))). slice_set l 0 none) t.2, (id, k, w, set_there s.views id v w at, refl));
        },
        (
          y,
          t.1,
          r.log,
          refl,
          t.3,
          led,
          fit.prefix,
          (fit.named stage.2).1,
          All-weaker (IsJoinedAway opened r.log r.names s.views) (HasPart r.log) (λ gone q. (q.prefix, q.own)) v.joined (r.settled id v at),
          sym found ∙ now,
        ),
      )

  pub watches : (slots id : ℕ) (me : M) (k : ℕ) → me.0.stage ≡ Waiting k → Allows Rule slots id me 1 (λ n. n) (Watches steps (step slots 1 0 0 none) me)
  watches slots id me k is s r _ at _ =
      let same : slice_set s.words 1 (slice_index s.words 1) ≡ s.words = subst (λ (l : List ℕ). slice_set l 1 (slice_index l 1) ≡ l) (sym r.words) refl in
      let now : slice_index s.words 1 ≡ length r.log = ap (λ (l : List ℕ). slice_index l 1) r.words in
      dite (ℕ_discrete (slice_index s.words 1) k)
      (λ hit.
      let e = enters s r id k me at is hit (⊎_elim (λ t. t) (λ t. absurd (out_by s r id k me.0 at is (sym hit ∙ now) s.homes t)) r.home) in (
        e.0,
        takes 0 e.1,
        e.2,
        e.3,
        λ n also. let one : k ≡ n = waiting-injective k n (sym is ∙ also) in ((λ miss. absurd (miss (hit ∙ one))), λ _. subst (λ (m : ℕ). Entered steps me m (e.0, (0, e.1) ∷ me.1)) one e.4),
      ))
      (λ miss. (
        me.0,
        keeps,
        tt,
        subst Rule (λ i. record { words = sym same i; homes = s.homes; views = sym (set_again s.views id me.0 at) i }) r,
        λ n also. let one : k ≡ n = waiting-injective k n (sym is ∙ also) in ((λ _. refl), λ h. absurd (miss (h ∙ sym one))),
      ))

  -- One slot is carried with one value.
  cell_injective : (y z : Slot T E) → (let a : List (ℕ × Slot T E) = (0, y) ∷ [] in let b : List (ℕ × Slot T E) = (0, z) ∷ [] in a ≡ b) → y ≡ z
  cell_injective y z p = ap value_at p
    where
      value_at : List (ℕ × Slot T E) → Slot T E
      value_at [] = y
      value_at (x ∷ xs) = x.1

  noted_injective : (e f : Snapshot E) → (let a : Slot T E = Noted e in let b : Slot T E = Noted f in a ≡ b) → e ≡ f
  noted_injective e f p = cc p

  pub notes : (slots id : ℕ) (me : M) (k : ℕ) (e : Snapshot E) → me.0.stage ≡ Inside k → me.1 ≡ (0, Noted e) ∷ []
      → Allows Rule slots id me 1 (λ n. n) (NotesStep (step slots 1 0 0 none) me)
  notes slots id me k e is holds s r _ at _ =
      let v : P = me.0 in
      let w : P = noting v e.value in
      let fit = r.each id v at in
      let out : s.homes ≡ none ∷ [] = ⊎_elim (λ t. absurd (t.5 id k v at is)) (λ t. t.0) r.home in
      let same : slice_set s.words 1 (slice_index s.words 1) ≡ s.words = subst (λ (l : List ℕ). slice_set l 1 (slice_index l 1) ≡ l) (sym r.words) refl in (
        w,
        keeps,
        tt,
        record {
          log = r.log;
          ticket = r.ticket;
          cutter = r.cutter;
          names = r.names;
          some_seat = r.some_seat;
          few = r.few;
          words = same ∙ r.words;
          parts = omega (arith, total_set parts_of s.views id v w at, r.parts);
          queue = omega (arith, total_set queued_of s.views id v w at, r.queue);
          bound = omega (arith, total_set readied_of s.views id v w at, r.bound);
          each = stay (SeatFits opened r.log r.ticket r.cutter r.names seats) s.views id w
              record { opening_is = fit.opening_is; prefix = fit.prefix; named = fit.named; cuts = fit.cuts; stage = subst (FitsStage r.log r.ticket w) (sym is) (subst (FitsStage r.log r.ticket v) is fit.stage) }
              (λ j u _ e. r.each j u e);
          one_turn = unique_same HasTicket s.views id v w r.one_turn at (λ n h. h);
          one_name = unique_same HasName s.views id v w r.one_name at (λ n h. h);
          settled = settled_stays r.log r.names s.views id v w at refl (λ p. (p, refl)) r.settled;
          covered = r.covered;
          legal = r.legal;
          unnamed = r.unnamed;
          home = inr (out, (id, k, w, set_there s.views id v w at, is));
        },
        λ f also.
            let same : e ≡ f = noted_injective e f (cell_injective (Noted e) (Noted f) (sym holds ∙ also)) in
            λ i. (noting v (same i).value, me.1),
      )

  leaves_injective : (x y : T) (e f : Snapshot E) → (let a : Slot T E = Leaves x e in let b : Slot T E = Leaves y f in a ≡ b) → e ≡ f
  leaves_injective x y e f p = cc p

  pub goes : (slots id : ℕ) (me : M) (k : ℕ) (x : T) (e : Snapshot E) → me.0.stage ≡ Inside k → me.1 ≡ (0, Leaves x e) ∷ [] → IsAt steps me.0 (me.0.noted ++ e.value ∷ []) x
      → Allows Rule slots id me 1 (λ n. (n + 1) % 2 ^ 64) (GoesStep (step slots 1 1 0 none) me)
  goes slots id me k x e is holds led s r _ at _ =
      let v : P = me.0 in
      let w : P = left v e.value in
      let es : List E = v.noted ++ e.value ∷ [] in
      let l : Entry E = entry v.by es in
      let log : List (Entry E) = r.log ++ l ∷ [] in
      let n : ℕ = slice_index s.words 1 in
      let now : n ≡ length r.log = ap (λ (q : List ℕ). slice_index q 1) r.words in
      let fit = r.each id v at in
      let stage : FitsStage r.log r.ticket v (Inside k) = subst (FitsStage r.log r.ticket v) is fit.stage in
      let here : k ≡ length r.log = stage.0 in
      let under : k < r.ticket = stage.1 in
      let some_part : 0 < v.parts = stage.2 in
      let whole : v.seen ≡ r.log = stage.3 in
      let named = fit.named some_part in
      let long : length log ≡ length r.log + 1 = length-append r.log (l ∷ []) in
      let waits : queued v.stage ≡ 1 = ap queued is in
      let unready : readied v.stage ≡ 0 = ap readied is in
      let fits : (n + 1) % 2 ^ 64 ≡ length log = grind (arith, now, here, under, long, r.bound, r.few) in
      let mine : HasTicketAt v.stage k = subst (λ (z : Stage). HasTicketAt z k) (sym is) refl in
      let other_turn : (j m : ℕ) (u : P) → j ≢ id → get_elem? s.views j ≡ some u → HasTicketAt u.stage m → m ≡ k → ⊥ =
      λ j m u ne a h same. ne (r.one_turn j id k u v a at (subst (HasTicketAt u.stage) same h) mine) in
      let out : s.homes ≡ none ∷ [] = ⊎_elim (λ t. absurd (t.5 id k v at is)) (λ t. t.0) r.home in
      let back : put_back s.homes me.1 ≡ some (Leaves x e) ∷ [] = (λ i. put_back (out i) (holds i)) in
      let led' : LeadsByTurns steps opened log x = subst (λ (o : Option T). LeadsFromOpening steps o log x) (fit.opening_is some_part) (subst (λ (q : List (Entry E)). LeadsFromOpening steps v.opening (q ++ l ∷ []) x) whole (stands-snoc steps v.opening v.seen led.0 x v.by es led.1 led.2)) in
      let own : entries_of v.by log ≡ v.mine ++ l ∷ [] = entries-same v.by r.log es ∙ ap (λ (q : List (Entry E)). q ++ l ∷ []) named.1 in
      let settled' : (j : ℕ) (u : P) → get_elem? s.views j ≡ some u → All (IsJoinedAway opened log r.names s.views) u.joined =
      λ j u a. All-weaker (IsJoinedAway opened r.log r.names s.views) (IsJoinedAway opened log r.names s.views)
      (λ gone t. record {
        opening_is = t.opening_is;
        prefix = prefix_snoc gone.seen r.log l t.prefix;
        named = t.named;
        own = entries-other gone.by v.by r.log es (λ same. t.no_seat id v at some_part (sym same)) ∙ t.own;
        no_seat = t.no_seat;
      })
      u.joined (r.settled j u a) in (
        w,
        gives,
        tt,
        record {
          log = log;
          ticket = r.ticket;
          cutter = r.cutter;
          names = r.names;
          some_seat = r.some_seat;
          few = r.few;
          words = subst (λ (q : List ℕ). slice_set q 1 ((n + 1) % 2 ^ 64) ≡ r.ticket ∷ length log ∷ []) (sym r.words) (ap (λ (m : ℕ). r.ticket ∷ m ∷ []) fits);
          parts = omega (arith, total_set parts_of s.views id v w at, r.parts);
          queue = omega (arith, total_set queued_of s.views id v w at, waits, long, r.queue);
          bound = omega (arith, total_set readied_of s.views id v w at, unready, r.bound);
          each = stay (SeatFits opened log r.ticket r.cutter r.names seats) s.views id w
              record {
                opening_is = fit.opening_is;
                prefix = subst (λ (q : List (Entry E)). IsPrefix (q ++ l ∷ []) log) (sym whole) (prefix_self log);
                named = λ _. (named.0, own);
                cuts = fit.cuts;
                stage = tt;
              }
              (λ j u ne a. let f = r.each j u a in record {
                opening_is = f.opening_is;
                prefix = prefix_snoc u.seen r.log l f.prefix;
                named = λ p. ((f.named p).0, entries-other u.by v.by r.log es (λ same. ne (r.one_name j id v.by u v a at (p, same) (some_part, refl))) ∙ (f.named p).1);
                cuts = f.cuts;
                stage = others_wait r.log log r.ticket k u here long u.stage f.stage (λ m h same. other_turn j m u ne a h same);
              });
          one_turn = unique_set HasTicket s.views id w r.one_turn (λ m j u h _ _ _. h);
          one_name = unique_same HasName s.views id v w r.one_name at (λ m h. h);
          settled = settled_stays log r.names s.views id v w at refl (λ p. (p, refl)) settled';
          covered = r.covered;
          legal = (x, led');
          unnamed = λ by above. entries-other by v.by r.log es (λ same. let b = named.0 in omega (arith, same, b, above)) ∙ r.unnamed by above;
          home = inl (
            Leaves x e,
            x,
            back,
            refl,
            led',
            λ j m u a. stay (λ (j : ℕ) (u : P). (m : ℕ) → u.stage ≢ Inside m) s.views id w (λ m p. cc p)
                (λ j u ne a m p. let f : FitsStage r.log r.ticket u (Inside m) = subst (FitsStage r.log r.ticket u) p (r.each j u a).stage in
                other_turn j m u ne a (subst (λ (z : Stage). HasTicketAt z m) (sym p) refl) (f.0 ∙ sym here)) j u a m,
          );
        },
        λ y f also.
            let same : e ≡ f = leaves_injective x y e f (cell_injective (Leaves x e) (Leaves y f) (sym holds ∙ also)) in (
              (λ i. (left v (same i).value, rest (holds i))),
              subst (λ (q : List (Entry E)). entries_of v.by (q ++ l ∷ []) ≡ v.mine ++ l ∷ []) (sym whole) own,
            ),
      )
