-- The client of a number, in lists of clients that changed.
use Rattle.std.proofs.Common.{◌≡◌, ℕ, zero, suc, ◌<◌, ◌==◌, ◌||◌, Bool, true, false, cond, if◌then◌else◌, List, [], ◌∷◌, map, length, get_or, Contains, Option, None, Some, option_map, refl, sym, ap, ap₂, ◌∙◌, arith, eq-eqb, ne_eqb, eqb-true}
use Rattle.std.specs.List.{list_any}
use Rattle.std.proofs.lemmas.Bool.{false≢true, or_left, or_right}
use Rattle.std.proofs.lemmas.Option.{none-some, same_Some}
use Rattle.ob_desk.specs.declared.clients.Client.{Client}
use Rattle.ob_desk.specs.Desk.{new_client, client_in, on_client}

-- the client that is found has the number
pub client_number : (cs : List Client) (n : ℕ) (c : Client) → client_in cs n ≡ Some c → c.number ≡ n
client_number [] n c e = absurd (none-some c e)
client_number (x ∷ cs) n c e = step (x.number == n) refl e (client_number cs n c)
  where
    step : (b : Bool) → (x.number == n) ≡ b → cond b (Some x) (client_in cs n) ≡ Some c → (client_in cs n ≡ Some c → c.number ≡ n) → c.number ≡ n
    step true is e next = ap (λ (q : Client). q.number) (sym (same_Some x c e)) ∙ eqb-true x.number n is
    step false is e next = next e

-- a change of every client that keeps its number
pub client_in-map : (g : Client → Client) → ((c : Client) → (g c).number ≡ c.number) → (cs : List Client) (n : ℕ) → client_in (map g cs) n ≡ option_map g (client_in cs n)
client_in-map g keeps [] n = refl
client_in-map g keeps (x ∷ cs) n = ap (λ m. cond (m == n) (Some (g x)) (client_in (map g cs) n)) (keeps x) ∙ step (x.number == n) (client_in-map g keeps cs n)
  where
    step : (b : Bool) → client_in (map g cs) n ≡ option_map g (client_in cs n) → cond b (Some (g x)) (client_in (map g cs) n) ≡ option_map g (cond b (Some x) (client_in cs n))
    step true e = refl
    step false e = e

-- where the client came from
record Was (g : Client → Client) (cs : List Client) (n : ℕ) (now : Client) : Type 0 where
  pub client : Client
  pub found : client_in cs n ≡ Some client
  pub is : g client ≡ now

was : (g : Client → Client) → ((c : Client) → (g c).number ≡ c.number) → (cs : List Client) (n : ℕ) (now : Client) → client_in (map g cs) n ≡ Some now → Was g cs n now
was g keeps cs n now e = step (client_in cs n) refl (sym (client_in-map g keeps cs n) ∙ e)
  where
    step : (o : Option Client) → client_in cs n ≡ o → option_map g o ≡ Some now → Was g cs n now
    step None is e = absurd (none-some now e)
    step (Some c) is e = record { client = c; found = is; is = same_Some (g c) now e }

-- if there is a client of the number, it's this one
abbrev pub IsOnly : List Client → ℕ → Client → Type 0
IsOnly cs n client = (c : Client) → client_in cs n ≡ Some c → c ≡ client

pub only_mapped : (g : Client → Client) → ((c : Client) → (g c).number ≡ c.number) → (cs : List Client) (n : ℕ) (client : Client) → IsOnly cs n client → IsOnly (map g cs) n (g client)
only_mapped g keeps cs n client only now e = let w = was g keeps cs n now e in sym w.is ∙ ap g (only w.client w.found)

-- one client changed
kept_by : (f : Client → Client) (m : ℕ) → ((c : Client) → (f c).number ≡ c.number) → (c : Client) → (if c.number == m then f c else c).number ≡ c.number
kept_by f m keeps c = step (c.number == m)
  where
    step : (b : Bool) → (if b then f c else c).number ≡ c.number
    step true = keeps c
    step false = refl

pub only_changed : (f : Client → Client) → ((c : Client) → (f c).number ≡ c.number) → (cs : List Client) (m n : ℕ) (client : Client) → m ≡ n → IsOnly cs n client → IsOnly (on_client f cs m) n (f client)
only_changed f keeps cs m n client same only now e =
    let w = was (λ c. if c.number == m then f c else c) (kept_by f m keeps) cs n now e in
    sym w.is ∙ (ap (λ b. if b then f w.client else w.client) (eq-eqb w.client.number m (client_number cs n w.client w.found ∙ sym same)) ∙ ap f (only w.client w.found))

pub only_unchanged : (f : Client → Client) → ((c : Client) → (f c).number ≡ c.number) → (cs : List Client) (m n : ℕ) (client : Client) → (m ≡ n → ⊥) → IsOnly cs n client → IsOnly (on_client f cs m) n client
only_unchanged f keeps cs m n client other only now e =
    let w = was (λ c. if c.number == m then f c else c) (kept_by f m keeps) cs n now e in
    sym w.is ∙ (ap (λ b. if b then f w.client else w.client) (ne_eqb w.client.number m (λ same. other (sym same ∙ client_number cs n w.client w.found))) ∙ only w.client w.found)

-- ---- the numbers

-- whether a number is one of these
abbrev pub is_one : List ℕ → ℕ → Bool
is_one ms n = list_any (λ m. m == n) ms

abbrev pub numbers : List Client → List ℕ
numbers cs = map (λ c. c.number) cs

pub numbers_mapped : (g : Client → Client) → ((c : Client) → (g c).number ≡ c.number) → (cs : List Client) → numbers (map g cs) ≡ numbers cs
numbers_mapped g keeps [] = refl
numbers_mapped g keeps (x ∷ cs) = ap₂ (λ (m : ℕ) (ms : List ℕ). m ∷ ms) (keeps x) (numbers_mapped g keeps cs)

pub numbers_changed : (f : Client → Client) → ((c : Client) → (f c).number ≡ c.number) → (cs : List Client) (m : ℕ) → numbers (on_client f cs m) ≡ numbers cs
numbers_changed f keeps cs m = numbers_mapped (λ x. if x.number == m then f x else x) (kept_by f m keeps) cs

-- each of them has a client
pub has_client : (cs : List Client) (n : ℕ) → is_one (numbers cs) n ≡ true → (c : Client) × (client_in cs n ≡ Some c)
has_client [] n e = absurd (false≢true e)
has_client (x ∷ cs) n e = step (x.number == n) e (has_client cs n)
  where
    step : (b : Bool) → (b || is_one (numbers cs) n) ≡ true → (is_one (numbers cs) n ≡ true → (c : Client) × (client_in cs n ≡ Some c)) → (c : Client) × (cond b (Some x) (client_in cs n) ≡ Some c)
    step true e next = (x, refl)
    step false e next = next e

pub only_new : (ms : List ℕ) (n : ℕ) → IsOnly (map new_client ms) n (new_client n)
only_new [] n c e = absurd (none-some c e)
only_new (m ∷ ms) n c e = step (m == n) refl e (only_new ms n c)
  where
    step : (b : Bool) → (m == n) ≡ b → cond b (Some (new_client m)) (client_in (map new_client ms) n) ≡ Some c → (client_in (map new_client ms) n ≡ Some c → c ≡ new_client n) → c ≡ new_client n
    step true is e next = sym (same_Some (new_client m) c e) ∙ ap new_client (eqb-true m n is)
    step false is e next = next e

pub new_numbers : (ms : List ℕ) → numbers (map new_client ms) ≡ ms
new_numbers [] = refl
new_numbers (m ∷ ms) = ap (λ qs. m ∷ qs) (new_numbers ms)

pub is_one-from_Contains : (ms : List ℕ) (n : ℕ) → Contains ms n → is_one ms n ≡ true
is_one-from_Contains ms n h = at ms h.0 h.1 h.2
  where
    at : (qs : List ℕ) (k : ℕ) → k < length qs → get_or qs k n ≡ n → is_one qs n ≡ true
    at [] k l e = absurd (omega arith)
    at (q ∷ qs) zero l e = or_left (q == n) (is_one qs n) (eq-eqb q n e)
    at (q ∷ qs) (suc k) l e = or_right (q == n) (is_one qs n) (at qs k (omega arith) e)
