-- Calls of a pass behind one another, and what its client was told by them.
use Rattle.std.proofs.Common.{◌≡◌, ℕ, ◌==◌, Bool, false, cond, List, [], ◌∷◌, ◌++◌, flat_map, Option, Some, option_map, unwrap_or, sym, ap, ap₂, ◌∙◌, append_assoc, eq-eqb}
use Rattle.std.proofs.lemmas.Grind.{flat_map-append}
use Rattle.ob_desk.specs.Desk.{Call, Reply}
use Rattle.ob_desk.specs.declared.calls.Txn.{Txn}
use Rattle.ob_session.specs.Clients.{Told, told_of, told_after, told_next, on_last, last_of, client_of, said_by}
use Rattle.ob_session.proofs.Lasts.{last_of-on_last}
use Rattle.ob_session.proofs.Saying.{said_append, told_push}
use Rattle.ob_turn.specs.declared.turn.Entry.{Entry}
use Rattle.ob_turn.proofs.Prefixes.{prefix_trans}
use Rattle.ob_hall.specs.Passes.{Steps, Hall, Pass, history_of, entries_by, calls_in, own_calls, said_of}
use Rattle.ob_hall.specs.Calling.{MakesCalls, IsLastTold}

pub calls_append : (xs ys : List (Entry Steps)) → calls_in (xs ++ ys) ≡ calls_in xs ++ calls_in ys
calls_append xs ys = flat_map-append (λ (e : Entry Steps). flat_map (λ (calls : Steps). calls) e.calls) xs ys

-- Calls made behind others.
pub makes_join : (hall : Hall) (a b c : Pass) (xs ys : Steps) → MakesCalls hall a b xs → MakesCalls hall b c ys → MakesCalls hall a c (xs ++ ys)
makes_join hall a b c xs ys m n = record {
  goes_on = prefix_trans (history_of a) (history_of b) (history_of c) m.goes_on n.goes_on;
  legal = n.legal;
  new = m.new ++ n.new;
  made = n.made ∙ (ap (λ (l : List (Entry Steps)). l ++ n.new) m.made ∙ append_assoc (entries_by a) m.new n.new);
  calls_are = calls_append m.new n.new ∙ ap₂ (λ (l r : Steps). l ++ r) m.calls_are n.calls_are;
  own = n.own;
  last = (m.new ++ n.last.0, n.last.1, n.last.2, ap (λ (l : List (Entry Steps)). m.new ++ l) n.last.3 ∙ sym (append_assoc m.new n.last.0 (n.last.2 ∷ [])), n.last.4);
  place = n.place ∙ m.place;
  client = n.client ∙ m.client;
}

-- What the client said is longer by these calls' own.
pub said_more : (hall : Hall) (a b : Pass) (calls : Steps) → MakesCalls hall a b calls → said_of b ≡ said_of a ++ said_by a.client calls
said_more hall a b calls m =
    ap (λ (n : ℕ). said_by n (own_calls b)) m.client
    ∙ (ap (λ (es : List (Entry Steps)). said_by a.client (calls_in es)) m.made
    ∙ (ap (said_by a.client) (calls_append (entries_by a) m.new ∙ ap (λ (l : Steps). own_calls a ++ l) m.calls_are)
    ∙ said_append a.client (own_calls a) calls))

pub own_one : (number client : ℕ) (call : Call) (reply : Reply) → client_of call ≡ Some client → client ≡ number → said_by number ((call, reply) ∷ []) ≡ (call, reply) ∷ []
own_one number client call reply of is =
    ap (λ (o : Option ℕ). cond (unwrap_or (option_map (λ n. n == number) o) false) ((call, reply) ∷ []) []) of
    ∙ ap (λ (b : Bool). cond b ((call, reply) ∷ []) []) (eq-eqb client number is)

pub said_one : (hall : Hall) (a b : Pass) (client : ℕ) (call : Call) (reply : Reply) → MakesCalls hall a b ((call, reply) ∷ []) → client_of call ≡ Some client → client ≡ a.client → said_of b ≡ said_of a ++ (call, reply) ∷ []
said_one hall a b client call reply m of is = said_more hall a b ((call, reply) ∷ []) m ∙ ap (λ (l : Steps). said_of a ++ l) (own_one a.client client call reply of is)

-- What is told of the last transaction behind one call more, which isn't a begin.
pub next_told : (hall : Hall) (a b : Pass) (x : Txn) (told : Told) (call : Call) (reply : Reply) → MakesCalls hall a b ((call, reply) ∷ []) → IsLastTold a x told → client_of call ≡ Some x.client
    → ((ts : List Told) → told_after ts (call, reply) ≡ on_last (told_next call reply) ts) → (told_next call reply told).txn ≡ told.txn → IsLastTold b x (told_next call reply told)
next_told hall a b x told call reply m is of like same = record {
  last = ap (λ (said : Steps). last_of (told_of said)) (said_one hall a b x.client call reply m of is.client)
      ∙ (ap (λ (ts : List Told). last_of ts) (told_push (said_of a) (call, reply) ∙ like (told_of (said_of a))) ∙ last_of-on_last (told_next call reply) (told_of (said_of a)) told is.last);
  named = same ∙ is.named;
  client = is.client ∙ sym m.client;
}
