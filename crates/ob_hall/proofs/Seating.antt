-- The passes of a new hall, made from the last client's on.
use Rattle.std.proofs.Common.{◌≡◌, ℕ, zero, suc, ◌+◌, ◌-◌, ◌<◌, ◌≤◌, false, List, [], ◌∷◌, ◌++◌, length, drop, get_or, None, Some, append_assoc, refl, sym, ap, subst, ◌∙◌, arith, length-append}
use Rattle.std.specs.List.{All, slice_get}
use Rattle.std.proofs.lemmas.List.Elements.{All-nil, All-cons}
use Rattle.std.proofs.lemmas.Option.{none-some, slice_get-get_or}
use Rattle.std.specs.List.Sorted.{IsStrictlyIncreasing}
use Rattle.std.proofs.lemmas.List.{get_or_append_left}
use Rattle.std.proofs.Math.Seq.{get_or-append_seam}
use Rattle.ob_desk.specs.Desk.{DeskState}
use Rattle.ob_turn.specs.declared.bell.Heard.{Heard}
use Rattle.atomic_table.specs.declared.shared.Seat.{Seat}
use Rattle.ob_turn.specs.declared.turn.Entry.{Entry}
use mathlib.Core.Logic.{dite}
use native.Mathlib.Decide.{dec_le}
use Rattle.ob_turn.specs.BellCalls as bells
use Rattle.ob_turn.specs.BellHistory.{first_heard, kept_part, heard_anew}
use Rattle.ob_turn.specs.History.{entries_of}
use Rattle.ob_turn.specs.TurnCalls as turns
use Rattle.ob_turn.specs.TurnCalls.{TurnSeat, AreSeats}
use Rattle.ob_session.specs.Clients.{told_of, last_of, said_by, has_signed_off}
use Rattle.ob_hall.specs.Turns.{client_numbers}
use Rattle.ob_hall.specs.Passes.{Steps, Hall, Pass, opening_of, callers_of, said_of, calls_in, IsNew, IsEarOf}
use Rattle.ob_hall.specs.Calling.{IsReady, IsBetween}
use Rattle.ob_hall.specs.Opening.{IsFreshPass, AreClients, ArePasses}

abbrev TSeat : Type 0
TSeat = TurnSeat DeskState Steps

abbrev Ear : Type 0
Ear = Seat (Unit {0}) Heard

-- a pass of these parts
abbrev pub pass_of : TSeat → Ear → ℕ → Pass
pass_of seat ear client = record { seat = seat; ear = ear; client = client; last = None }

-- so many passes are made, and so many seats are left
pub record IsSeating (hall : Hall) (clients : List ℕ) (k : ℕ) (seats : List TSeat) (ear : Ear) (passes : List Pass) : Type 0 where
  pub long : length seats + k ≡ length clients + 1
  pub fresh : (i : ℕ) (d : TSeat) → i < length seats → turns.IsFreshSeat hall.turn (opening_of hall) i (get_or seats i d)
  pub ear_of : bells.IsBellSeat hall.bell ear
  pub as_many : bells.seats_of hall.bell ≡ callers_of hall
  pub ear_is : ear.me.0 ≡ first_heard (length seats)
  pub done : AreClients hall (length clients - k) (drop (length clients - k) clients) passes

-- a fresh seat and an ear that was told nothing make a fresh pass
fresh_pass : (hall : Hall) (at : ℕ) (seat : TSeat) (ear : Ear) (client : ℕ) → IsNew (opening_of hall) → turns.IsFreshSeat hall.turn (opening_of hall) at seat → IsEarOf hall ear → ear.me.0.seen ≡ [] → IsFreshPass hall at (pass_of seat ear client)
fresh_pass hall at seat ear client new f of_bell unheard = record {
  own = record {
    seat = f.own;
    ear = of_bell;
    opening = λ i. (f.knows i).0.opening;
    opens = new;
    own = subst (λ (es : List (Entry Steps)). entries_of seat.me.0.by es ≡ seat.me.0.mine) (sym (λ i. (f.knows i).0.seen)) (sym (λ i. (f.knows i).0.mine));
    one_part = λ i. (f.knows i).0.parts;
  };
  idle = record { stage = λ i. (f.knows i).0.stage; some_part = subst (λ (n : ℕ). 0 < n) (sym (λ i. (f.knows i).0.parts)) (omega arith); empty = λ i. (f.knows i).1 };
  place = λ i. (f.knows i).0.by;
  none_seen = λ i. (f.knows i).0.seen;
  none_made = λ i. (f.knows i).0.mine;
  none_told = unheard;
  none_begun = refl;
}

pub seating_begins : (hall : Hall) (clients : List ℕ) (seats : List TSeat) (ear : Ear) → AreSeats hall.turn (opening_of hall) (length clients + 1) seats → bells.IsBellSeat hall.bell ear → bells.IsFirst (length clients + 1) ear → bells.seats_of hall.bell ≡
    length clients + 1 → IsSeating hall clients 0 seats ear []
seating_begins hall clients seats ear are of_bell first told = record {
  long = omega (arith, are.long);
  fresh = λ i d lt. are.fresh i d lt;
  ear_of = of_bell;
  as_many = told ∙ sym are.told;
  ear_is = subst (λ (n : ℕ). ear.me.0 ≡ first_heard n) (sym are.long) first.knows;
  done = subst (λ (m : ℕ). AreClients hall m (drop m clients) []) (whole (length clients)) (none_yet hall (length clients) clients refl);
}
  where
    whole : (n : ℕ) → n ≡ n - 0
    whole n = omega arith

    none_yet : (hall : Hall) (n : ℕ) (cs : List ℕ) → n ≡ length cs → AreClients hall n (drop n cs) []
    none_yet hall n cs is = subst (λ (l : List ℕ). AreClients hall n l []) (sym (ap (λ (m : ℕ). drop m cs) is ∙ drop_all cs)) tt
      where
        drop_all : (xs : List ℕ) → drop (length xs) xs ≡ []
        drop_all [] = refl
        drop_all (x ∷ xs) = drop_all xs

-- the seat that was popped is the last one
popped : (hall : Hall) (seats less : List TSeat) (seat : TSeat) → seats ≡ less ++ seat ∷ [] → ((i : ℕ) (d : TSeat) → i < length seats → turns.IsFreshSeat hall.turn (opening_of hall) i (get_or seats i d))
    → turns.IsFreshSeat hall.turn (opening_of hall) (length less) seat × ((i : ℕ) (d : TSeat) → i < length less → turns.IsFreshSeat hall.turn (opening_of hall) i (get_or less i d))
popped hall seats less seat is fresh =
    let long : length seats ≡ length less + 1 = ap (λ (l : List TSeat). length l) is ∙ length-append less (seat ∷ []) in (
      subst (turns.IsFreshSeat hall.turn (opening_of hall) (length less)) (ap (λ (l : List TSeat). get_or l (length less) seat) is ∙ get_or-append_seam less seat [] seat) (fresh (length less) seat (omega (arith, long))),
      λ i d lt. subst (turns.IsFreshSeat hall.turn (opening_of hall) i) (ap (λ (l : List TSeat). get_or l i d) is ∙ get_or_append_left less (seat ∷ []) d i lt) (fresh i d (omega (arith, long, lt))),
    )

drop_here : (xs : List ℕ) (n : ℕ) → n < length xs → drop n xs ≡ get_or xs n 0 ∷ drop (suc n) xs
drop_here [] n lt = absurd (omega (arith, lt))
drop_here (x ∷ xs) zero lt = refl
drop_here (x ∷ xs) (suc n) lt = drop_here xs n (omega (arith, lt))

-- One pass more is made.
pub seating_goes_on : (hall : Hall) (clients : List ℕ) (k : ℕ) (seats less : List TSeat) (seat : TSeat) (ear kept new : Ear) (client : ℕ) (passes more : List Pass) → IsNew (opening_of hall) → IsSeating hall clients k seats ear passes → k < length clients
    → seats ≡ less ++ seat ∷ [] → bells.Parts ear kept new → client ≡ get_or clients (length clients - 1 - k) 0 → more ≡ pass_of seat new client ∷ passes → IsSeating hall clients (k + 1) less kept more
unfolding popped fresh_pass drop_here
seating_goes_on hall clients k seats less seat ear kept new client passes more is_new s below is p client_is more_is =
    let n : ℕ = length clients - (k + 1) in
    let long : length seats ≡ length less + 1 = ap (λ (l : List TSeat). length l) is ∙ length-append less (seat ∷ []) in
    let all : length seats + k ≡ length clients + 1 = s.long in
    let next : length clients - k ≡ suc n = omega (arith, below) in
    let here : length less ≡ suc n = omega (arith, long, all, below) in
    let place : length clients - 1 - k ≡ n = omega (arith, below) in
    let both = popped hall seats less seat is s.fresh in
    let heard : new.me.0 ≡ heard_anew ear.me.0 = λ i. (p.given i).0 in
    let unheard : new.me.0.seen ≡ [] = (λ i. (heard i).seen) ∙ (λ i. (s.ear_is i).seen) in
    let mute : new.me.0.raises ≡ false = λ i. (heard i).raises in
    let of_new : IsEarOf hall new = record { bell = record { table = p.table ∙ s.ear_of.table; empty = λ i. (p.given i).1 }; one_part = λ i. (heard i).parts; as_many = s.as_many } in
    let fresh : IsFreshPass hall (suc n) (pass_of seat new client) = fresh_pass hall (suc n) seat new client is_new (subst (λ (m : ℕ). turns.IsFreshSeat hall.turn (opening_of hall) m seat) here both.0) of_new unheard in
    let done : AreClients hall (suc n) (drop (suc n) clients) passes = subst (λ (m : ℕ). AreClients hall m (drop m clients) passes) next s.done in
    let now : AreClients hall n (get_or clients n 0 ∷ drop (suc n) clients) (pass_of seat new client ∷ passes) = (fresh, client_is ∙ ap (λ (m : ℕ). get_or clients m 0) place, mute, done) in
    record {
      long = omega (arith, long, all);
      fresh = both.1;
      ear_of = record { table = p.same.table ∙ s.ear_of.table; empty = p.same.empty ∙ s.ear_of.empty };
      as_many = s.as_many;
      ear_is = p.kept ∙ ((λ i. kept_part (s.ear_is i)) ∙ ap first_heard (omega (arith, long)));
      done = subst (λ (ps : List Pass). AreClients hall n (drop n clients) ps) (sym more_is) (subst (λ (cs : List ℕ). AreClients hall n cs (pass_of seat new client ∷ passes)) (sym (drop_here clients n (omega (arith, below)))) now);
    }

ready_fresh : (hall : Hall) (at number : ℕ) (pass : Pass) → IsFreshPass hall (suc at) pass → slice_get (client_numbers (opening_of hall)) at ≡ Some number → pass.client ≡ number → IsReady hall pass × IsBetween pass
ready_fresh hall at number pass f got client =
    let none : said_of pass ≡ [] = ap (λ (es : List (Entry Steps)). said_by pass.client (calls_in es)) f.none_made in (
      record { own = f.own; idle = f.idle; clients = record { at = at; place = f.place; named = got ∙ ap (λ (n : ℕ). Some n) (sym client) } },
      record { here = ap has_signed_off none; over = λ t is. absurd (none-some t (sym (ap (λ (said : Steps). last_of (told_of said)) none) ∙ is)) },
    )

seam : (front : List ℕ) (n : ℕ) (cs : List ℕ) → slice_get (front ++ n ∷ cs) (length front) ≡ Some n
seam front n cs =
    let long : length (front ++ n ∷ cs) ≡ length front + suc (length cs) = length-append front (n ∷ cs) in
    slice_get-get_or (front ++ n ∷ cs) (length front) 0 (omega (arith, long)) ∙ ap (λ (k : ℕ). Some k) (get_or-append_seam front n cs 0)

-- The passes of the clients may begin.
all_ready : (hall : Hall) (front cs : List ℕ) (passes : List Pass) → client_numbers (opening_of hall) ≡ front ++ cs → AreClients hall (length front) cs passes → All (λ p. IsReady hall p × IsBetween p) passes
all_ready hall front [] [] same are = All-nil (λ p. IsReady hall p × IsBetween p)
all_ready hall front [] (p ∷ passes) same are = absurd are
all_ready hall front (n ∷ cs) [] same are = absurd are
all_ready hall front (n ∷ cs) (p ∷ passes) same (fresh, client, mute, more) =
    let long : length (front ++ n ∷ []) ≡ length front + 1 = length-append front (n ∷ []) in
    let next : suc (length front) ≡ length (front ++ n ∷ []) = omega (arith, long) in
    All-cons (λ q. IsReady hall q × IsBetween q) p passes
    (ready_fresh hall (length front) n p fresh (ap (λ (ns : List ℕ). slice_get ns (length front)) same ∙ seam front n cs) client)
    (all_ready hall (front ++ n ∷ []) cs passes (same ∙ sym (append_assoc front (n ∷ []) cs)) (subst (λ (k : ℕ). AreClients hall k cs passes) next more))

-- The last seat is the driver's.
pub seating_ends : (hall : Hall) (clients : List ℕ) (k : ℕ) (seats less : List TSeat) (seat : TSeat) (ear : Ear) (passes all : List Pass) → IsNew (opening_of hall) → IsSeating hall clients k seats ear passes → length clients ≤ k → turns.seats_of hall.turn ≡
    length clients + 1 → client_numbers (opening_of hall) ≡ clients
    → seats ≡ less ++ seat ∷ [] → all ≡ pass_of seat ear 0 ∷ passes → ArePasses hall clients all
unfolding popped fresh_pass
seating_ends hall clients k seats less seat ear passes all is_new s over told numbers is all_is =
    let long : length seats ≡ length less + 1 = ap (λ (l : List TSeat). length l) is ∙ length-append less (seat ∷ []) in
    let sum : length seats + k ≡ length clients + 1 = s.long in
    let none : length less ≡ 0 = omega (arith, long, sum, over) in
    let gone : length clients - k ≡ 0 = omega (arith, over) in
    let both = popped hall seats less seat is s.fresh in
    let one_seat : length seats ≡ 1 = omega (arith, long, none) in
    let ear_of : IsEarOf hall ear = record { bell = s.ear_of; one_part = (λ i. (s.ear_is i).parts) ∙ one_seat; as_many = s.as_many } in
    let are : AreClients hall 0 clients passes = subst (λ (m : ℕ). AreClients hall m (drop m clients) passes) gone s.done in record {
      callers = omega (arith, told);
      driver = pass_of seat ear 0;
      others = passes;
      are = all_is;
      first = fresh_pass hall 0 seat ear 0 is_new (subst (λ (m : ℕ). turns.IsFreshSeat hall.turn (opening_of hall) m seat) none both.0) ear_of (λ i. (s.ear_is i).seen);
      raises = λ i. (s.ear_is i).raises;
      clients_are = are;
      ready = all_ready hall [] clients passes numbers are;
    }

-- ---- how many clients there may be

rank : (ns : List ℕ) (k : ℕ) → IsStrictlyIncreasing ns → All (λ c. (1 ≤ c) × (c ≤ 64)) ns → k < length ns → k + 1 ≤ get_or ns k 0
rank ns zero up named lt = (named 0 0 lt).0
rank ns (suc m) up named lt =
    let before : m + 1 ≤ get_or ns m 0 = rank ns m up named (omega (arith, lt)) in
    let step : get_or ns m 0 < get_or ns (m + 1) 0 = up m (omega (arith, lt)) in
    let next : m + 1 ≡ suc m = omega arith in
    let same : get_or ns (m + 1) 0 ≡ get_or ns (suc m) 0 = ap (λ (k : ℕ). get_or ns k 0) next in
    omega (arith, before, step, same)

pub few : (ns : List ℕ) → IsStrictlyIncreasing ns → All (λ c. (1 ≤ c) × (c ≤ 64)) ns → length ns ≤ 64
few ns up named = dite (dec_le (length ns) 64) (λ le. le)
    (λ more.
    let at : 64 < length ns = omega (arith, more) in
    let high : 65 ≤ get_or ns 64 0 = rank ns 64 up named at in
    let low : get_or ns 64 0 ≤ 64 = (named 64 0 at).1 in
    absurd (omega (arith, high, low)))
