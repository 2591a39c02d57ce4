-- Bytes spell at most one version, and what is read from bytes is spelled by them.
use Rattle.std.specs.Prelude.{◌≡◌, ◌<◌, ◌≤◌, ℕ, ◌+◌, ◌-◌, ◌*◌, ◌==◌, Bool, true, false, List, [], ◌∷◌, ◌++◌, Option, Some, None, take, drop, length, slice_index, slice_index_or}
use Rattle.std.specs.Int.{w32, w64, to_le_bytes}
use Rattle.std.specs.List.{flat_map}
use Rattle.std.proofs.Common.{zero, suc, arith, refl, sym, ap, subst, ◌∙◌, length-append, get_or, length-drop, append_assoc}
use Rattle.std.proofs.lemmas.List.{take-append-drop, drop-drop, append-nil, drop_more, take_more, take_all, get_or-drop, get_or-append-add}
use Rattle.std.proofs.lemmas.List.Concat.{flat_map-append}
use Rattle.ob_base.specs.declared.params.Params.{Params}
use Rattle.ob_base.specs.Tree.{width}
use Rattle.ob_base.specs.Layout.{meta_len}
use Rattle.ob_base.specs.LittleEndian.{field_at}
use Rattle.ob_base.proofs.Spelled.{le32_same, front64, items_same, field32, field64}
use Rattle.ob_tables.specs.Version.{Version, HasSlots, FitsFields, AreRanks, MarksObey, ReadsVersion, Spells, SpelledOnce, EMPTY, used_at, key_bytes, mark_of, index_bytes, version_bytes}
use Rattle.ob_tables.proofs.VersionLaws.{version_of}
use Rattle.ob_tables.proofs.PartLaws.{key_width, keys_width, index_push}

-- ---- a version

key_same : (k l : Option ℕ) → ((x : ℕ) → k ≡ Some x → x < EMPTY) → ((x : ℕ) → l ≡ Some x → x < EMPTY) → key_bytes k ≡ key_bytes l → k ≡ l
key_same None None fk fl e = refl
key_same None (Some y) fk fl e = absurd (let low = fl y refl in let same : EMPTY ≡ y = le32_same EMPTY y (omega arith) (omega arith) e in omega arith)
key_same (Some x) None fk fl e = absurd (let low = fk x refl in let same : x ≡ EMPTY = le32_same x EMPTY (omega arith) (omega arith) e in omega arith)
key_same (Some x) (Some y) fk fl e = ap Some (let hx = fk x refl in let hy = fl y refl in le32_same x y (omega arith) (omega arith) e)

bit_same : (a b : Bool) → mark_of a ≡ mark_of b → a ≡ b
bit_same true true e = refl
bit_same true false e = absurd (omega arith)
bit_same false true e = absurd (omega arith)
bit_same false false e = refl

index_same : (rs ss : List ℕ) (us vs : List Bool) → length rs ≡ length us → length ss ≡ length vs → length rs ≡ length ss → index_bytes rs us ≡ index_bytes ss vs → (rs ≡ ss) × (us ≡ vs)
index_same [] [] [] [] lr ls long e = (refl, refl)
index_same [] [] us (v ∷ vs) lr ls long e = absurd (omega arith)
index_same [] [] (u ∷ us) vs lr ls long e = absurd (omega arith)
index_same [] (s ∷ ss) us vs lr ls long e = absurd (omega arith)
index_same (r ∷ rs) [] us vs lr ls long e = absurd (omega arith)
index_same (r ∷ rs) (s ∷ ss) [] vs lr ls long e = absurd (omega arith)
index_same (r ∷ rs) (s ∷ ss) (u ∷ us) [] lr ls long e = absurd (omega arith)
index_same (r ∷ rs) (s ∷ ss) (u ∷ us) (v ∷ vs) lr ls long e =
    let rank : r ≡ s = cc in
    let bit : mark_of u ≡ mark_of v = ap (λ xs. get_or xs 1 0) e in
    let mark : u ≡ v = bit_same u v bit in
    let rest : index_bytes rs us ≡ index_bytes ss vs = ap (drop 2) e in
    let tails = index_same rs ss us vs (omega arith) (omega arith) (omega arith) rest in
    let ranks : rs ≡ ss = tails.0 in
    let marks : us ≡ vs = tails.1 in
    (cc, cc)

pub version_same : (v w : Version) → FitsFields v → FitsFields w → length v.keys ≡ length w.keys → length v.used ≡ length v.ranks → length w.used ≡ length w.ranks → length v.ranks ≡ length w.ranks → version_bytes v ≡ version_bytes w → v ≡ w
version_same v w fv fw keys uv uw ranks e =
    let home : v.home ≡ w.home = ap (λ xs. get_or xs 0 0) e in
    let one = front64 v.generation w.generation (to_le_bytes w64 v.base ++ (flat_map key_bytes v.keys ++ index_bytes v.ranks v.used)) (to_le_bytes w64 w.base ++ (flat_map key_bytes w.keys ++ index_bytes w.ranks w.used)) fv.generation fw.generation (ap (drop 1) e) in
    let two = front64 v.base w.base (flat_map key_bytes v.keys ++ index_bytes v.ranks v.used) (flat_map key_bytes w.keys ++ index_bytes w.ranks w.used) fv.base fw.base one.1 in
    let three = items_same key_bytes 4 None v.keys w.keys (index_bytes v.ranks v.used) (index_bytes w.ranks w.used) keys (λ i lt. key_width _) (λ i lt. key_width _)
    (λ i lt. key_same _ _ (λ x is. fv.keys i x is) (λ x is. fw.keys i x is)) two.1 in
    let four = index_same v.ranks w.ranks v.used w.used (sym uv) (sym uw) ranks three.1 in
    version_of v.home w.home v.generation w.generation v.base w.base v.keys w.keys v.ranks w.ranks v.used w.used home one.0 two.0 three.0 four.0 four.1

pub only : (p : Params) (bytes : List ℕ) (r v : Version) → ReadsVersion p bytes r → Spells p bytes v → r ≡ v
only p bytes r v reads spells =
    let sr : HasSlots p r = reads.slots in
    let sv : HasSlots p v = spells.obeys.slots in
    version_same r v reads.fits spells.fits (sr.keys ∙ sym sv.keys) (sr.used ∙ sym sr.ranks) (sv.used ∙ sym sv.ranks) (sr.ranks ∙ sym sv.ranks) (reads.is ∙ sym spells.is)

pub spelled_once : SpelledOnce
spelled_once p bytes v w a b = only p bytes v w (record { home = a.obeys.home; slots = a.obeys.slots; fits = a.fits; is = a.is }) b

pub home_is : (p : Params) (bytes : List ℕ) (v : Version) → Spells p bytes v → slice_index bytes 0 ≡ v.home
home_is p bytes v s = sym (ap (λ (xs : List ℕ). get_or xs 0 0) s.is)

mark_at : (ranks : List ℕ) (used : List Bool) (j : ℕ) → length used ≡ length ranks → j < length used → get_or (index_bytes ranks used) (2 * j + 1) 0 ≡ mark_of (get_or used j false)
mark_at ranks [] j e h = absurd (omega arith)
mark_at [] (u ∷ us) j e h = absurd (omega arith)
mark_at (r ∷ rs) (u ∷ us) zero e h = refl
mark_at (r ∷ rs) (u ∷ us) (suc j) e h = let n : 2 * suc j + 1 ≡ suc (suc (2 * j + 1)) = omega arith in rw n (mark_at rs us j (omega arith) (omega arith))

pub mark_is : (p : Params) (bytes : List ℕ) (v : Version) (j : ℕ) → Spells p bytes v → j < width p → slice_index bytes (17 + 4 * p.real + 2 * j + 1) ≡ mark_of (used_at v j)
mark_is p bytes v j s h =
    let sv : HasSlots p v = s.obeys.slots in
    let k : List ℕ = flat_map key_bytes v.keys in
    let i : List ℕ = index_bytes v.ranks v.used in
    let at : 17 + 4 * p.real + 2 * j + 1 ≡ 17 + (length k + (2 * j + 1)) = omega (arith, keys_width v.keys, sv.keys) in
    let back : drop 17 bytes ≡ k ++ i = ap (λ (xs : List ℕ). drop 17 xs) (sym s.is) in
    let low : j < length v.used = omega (arith, sv.used) in
    ap (λ (n : ℕ). get_or bytes n 0) at ∙ sym (get_or-drop 17 bytes (length k + (2 * j + 1)) 0) ∙ ap (λ (xs : List ℕ). get_or xs (length k + (2 * j + 1)) 0) back
    ∙ get_or-append-add k i (2 * j + 1) 0 ∙ mark_at v.ranks v.used j (sv.used ∙ sym sv.ranks) low

pub mark_small : (b : Bool) → mark_of b ≤ 1
mark_small true = omega arith
mark_small false = omega arith

-- ---- reading

take_none : {X : Type 0} (k : ℕ) → ◌≡◌ {A = List X} (take k []) []
take_none zero = refl
take_none (suc k) = refl

pub take_joined : {X : Type 0} (m n : ℕ) (xs : List X) → take m xs ++ take n (drop m xs) ≡ take (m + n) xs
take_joined zero n xs = ap (λ (m : ℕ). take m xs) (let e : n ≡ 0 + n = omega arith in e)
take_joined {X} (suc m) n [] = take_none {X = X} n ∙ sym (take_none (suc m + n))
take_joined {X} (suc m) n (x ∷ xs) = ap (λ (ys : List X). x ∷ ys) (take_joined m n xs) ∙ sym (ap (λ (k : ℕ). take k (x ∷ xs)) (let e : suc m + n ≡ suc (m + n) = omega arith in e))

-- bytes are their parts
pub parts_are : (bytes : List ℕ) (v : Version) (low : (i : ℕ) → get_or bytes i 0 < 256) → length bytes ≡ 17 + 4 * length v.keys + 2 * length v.ranks
    → v.home ≡ get_or bytes 0 0 → v.generation ≡ field_at w64 bytes 1 → v.base ≡ field_at w64 bytes 9
    → flat_map key_bytes v.keys ≡ take (4 * length v.keys) (drop 17 bytes) → index_bytes v.ranks v.used ≡ take (2 * length v.ranks) (drop (17 + 4 * length v.keys) bytes)
    → version_bytes v ≡ bytes
parts_are bytes v low long home generation base keys indexes =
    let last : take (2 * length v.ranks) (drop (17 + 4 * length v.keys) bytes) ≡ drop (17 + 4 * length v.keys) bytes = take_all (2 * length v.ranks) (drop (17 + 4 * length v.keys) bytes) (omega (arith, length-drop (17 + 4 * length v.keys) bytes)) in
    let e4 : flat_map key_bytes v.keys ++ index_bytes v.ranks v.used ≡ drop 17 bytes =
    ap (λ (xs : List ℕ). xs ++ index_bytes v.ranks v.used) keys ∙ ap (λ (xs : List ℕ). take (4 * length v.keys) (drop 17 bytes) ++ xs) (indexes ∙ last ∙ sym (drop-drop (4 * length v.keys) 17 bytes))
    ∙ take-append-drop (4 * length v.keys) (drop 17 bytes) in
    let e3 : to_le_bytes w64 v.base ++ (flat_map key_bytes v.keys ++ index_bytes v.ranks v.used) ≡ drop 9 bytes =
    ap (λ (xs : List ℕ). to_le_bytes w64 v.base ++ xs) (e4 ∙ sym (drop-drop 8 9 bytes)) ∙ ap (λ (xs : List ℕ). xs ++ drop 8 (drop 9 bytes)) (field64 bytes 9 v.base low (omega arith) base) ∙ take-append-drop 8 (drop 9 bytes) in
    let e2 : to_le_bytes w64 v.generation ++ (to_le_bytes w64 v.base ++ (flat_map key_bytes v.keys ++ index_bytes v.ranks v.used)) ≡ drop 1 bytes =
    ap (λ (xs : List ℕ). to_le_bytes w64 v.generation ++ xs) (e3 ∙ sym (drop-drop 8 1 bytes)) ∙ ap (λ (xs : List ℕ). xs ++ drop 8 (drop 1 bytes)) (field64 bytes 1 v.generation low (omega arith) generation) ∙ take-append-drop 8 (drop 1 bytes) in
    let some : 0 < length bytes = omega arith in
    let e1 : bytes ≡ get_or bytes 0 0 ∷ drop 1 bytes = drop_more bytes 0 0 some in
    ap (λ (xs : List ℕ). v.home ∷ xs) e2 ∙ ap (λ (h : ℕ). h ∷ drop 1 bytes) home ∙ sym e1

pub reads_are : (p : Params) (bytes : List ℕ) (v : Version) (low : (i : ℕ) → get_or bytes i 0 < 256) → length bytes ≡ meta_len p → HasSlots p v → FitsFields v
    → v.home < 2 → v.home ≡ get_or bytes 0 0 → v.generation ≡ field_at w64 bytes 1 → v.base ≡ field_at w64 bytes 9
    → flat_map key_bytes v.keys ≡ take (4 * p.real) (drop 17 bytes) → index_bytes v.ranks v.used ≡ take (2 * width p) (drop (17 + 4 * p.real) bytes) → ReadsVersion p bytes v
reads_are p bytes v low long slots fits two home generation base keys indexes =
    let r : length v.keys ≡ p.real = slots.keys in
    let w : length v.ranks ≡ width p = slots.ranks in
    record {
      home = two;
      slots = slots;
      fits = fits;
      is = parts_are bytes v low (omega arith) home generation base
          (keys ∙ ap (λ (n : ℕ). take (4 * n) (drop 17 bytes)) (sym r))
          (indexes ∙ ap (λ (n : ℕ). take (2 * n) (drop (17 + 4 * p.real) bytes)) (sym w) ∙ ap (λ (n : ℕ). take (2 * length v.ranks) (drop (17 + 4 * n) bytes)) (sym r));
    }

-- where a rule is broken no version that obeys is spelled
pub no_ranks : (p : Params) (bytes : List ℕ) (r v : Version) → ReadsVersion p bytes r → (AreRanks r.ranks → ⊥) → Spells p bytes v → ⊥
no_ranks p bytes r v reads broken s = broken (subst (λ (x : Version). AreRanks x.ranks) (sym (only p bytes r v reads s)) s.obeys.ranks)

pub no_marks : (p : Params) (bytes : List ℕ) (r v : Version) → ReadsVersion p bytes r → (MarksObey p.dummies r.keys r.used → ⊥) → Spells p bytes v → ⊥
no_marks p bytes r v reads broken s = broken (subst (λ (x : Version). MarksObey p.dummies x.keys x.used) (sym (only p bytes r v reads s)) s.obeys.marks)

pub no_home : (p : Params) (bytes : List ℕ) (v : Version) → 1 < slice_index bytes 0 → Spells p bytes v → ⊥
no_home p bytes v high s = let is : slice_index bytes 0 ≡ v.home = home_is p bytes v s in let low : v.home < 2 = s.obeys.home in omega arith

pub no_mark : (p : Params) (bytes : List ℕ) (v : Version) → (j : ℕ) × (j < width p) × (1 < slice_index bytes (17 + 4 * p.real + 2 * j + 1)) → Spells p bytes v → ⊥
no_mark p bytes v (j, h, high) s = let low : mark_of (used_at v j) ≤ 1 = mark_small (used_at v j) in let is : slice_index bytes (17 + 4 * p.real + 2 * j + 1) ≡ mark_of (used_at v j) = mark_is p bytes v j s h in omega arith

pub obeyed : (p : Params) (bytes : List ℕ) (v : Version) → ReadsVersion p bytes v → AreRanks v.ranks → MarksObey p.dummies v.keys v.used → Spells p bytes v
obeyed p bytes v r ranks marks = record { obeys = record { slots = r.slots; home = r.home; ranks = ranks; marks = marks }; fits = r.fits; is = r.is }

-- ---- the loops

pub record KeysRead (bytes : List ℕ) (j : ℕ) (keys : List (Option ℕ)) : Type 0 where
  pub spelled : flat_map key_bytes keys ≡ take (4 * j) (drop 17 bytes)
  pub many : length keys ≡ j
  pub low : (i k : ℕ) → slice_index_or keys i None ≡ Some k → k < EMPTY

None≢Some : {k : ℕ} → None ≡ Some k → ⊥
None≢Some e = cc

pub keys_read_none : (bytes : List ℕ) → KeysRead bytes 0 []
keys_read_none bytes = record { spelled = refl; many = refl; low = λ i k e. absurd (None≢Some e) }

low_push : (keys : List (Option ℕ)) (key : Option ℕ) → ((i k : ℕ) → get_or keys i None ≡ Some k → k < EMPTY) → ((k : ℕ) → key ≡ Some k → k < EMPTY) → (i k : ℕ) → get_or (keys ++ key ∷ []) i None ≡ Some k → k < EMPTY
low_push [] key low one zero k e = one k e
low_push [] key low one (suc i) k e = absurd (None≢Some e)
low_push (x ∷ xs) key low one zero k e = low 0 k e
low_push (x ∷ xs) key low one (suc i) k e = low_push xs key (λ j. low (suc j)) one i k e

pub keys_read_more : (bytes : List ℕ) (j number : ℕ) (keys : List (Option ℕ)) (key : Option ℕ) → ((i : ℕ) → get_or bytes i 0 < 256) → 17 + 4 * (j + 1) ≤ length bytes → number ≡ field_at w32 bytes (17 + 4 * j)
    → key_bytes key ≡ to_le_bytes w32 number → ((k : ℕ) → key ≡ Some k → k < EMPTY) → KeysRead bytes j keys → KeysRead bytes (j + 1) (keys ++ key ∷ [])
keys_read_more bytes j number keys key low fits is spelled one r = record {
  spelled = flat_map-append key_bytes keys (key ∷ []) ∙ ap (λ (xs : List ℕ). flat_map key_bytes keys ++ xs) (append-nil (key_bytes key) ∙ spelled ∙ field32 bytes (17 + 4 * j) number low (omega arith) is ∙ ap (take 4) (sym (drop-drop (4 * j) 17 bytes)))
      ∙ ap (λ (xs : List ℕ). xs ++ take 4 (drop (4 * j) (drop 17 bytes))) r.spelled ∙ take_joined (4 * j) 4 (drop 17 bytes) ∙ ap (λ (n : ℕ). take n (drop 17 bytes)) (let e : 4 * j + 4 ≡ 4 * (j + 1) = omega arith in e);
  many = omega (arith, length-append keys (key ∷ []), r.many);
  low = low_push keys key r.low one;
}

pub record IndexesRead (bytes : List ℕ) (at j : ℕ) (ranks : List ℕ) (used : List Bool) : Type 0 where
  pub spelled : index_bytes ranks used ≡ take (2 * j) (drop at bytes)
  pub ranks_many : length ranks ≡ j
  pub used_many : length used ≡ j

pub indexes_read_none : (bytes : List ℕ) (at : ℕ) → IndexesRead bytes at 0 [] []
indexes_read_none bytes at = record { spelled = refl; ranks_many = refl; used_many = refl }

mark_back : (m : ℕ) → m ≤ 1 → mark_of (m == 1) ≡ m
mark_back zero h = refl
mark_back (suc zero) h = refl
mark_back (suc (suc m)) h = absurd (omega arith)

pub indexes_read_more : (bytes : List ℕ) (at j r m : ℕ) (u : Bool) (ranks : List ℕ) (used : List Bool) → at + 2 * (j + 1) ≤ length bytes → r ≡ get_or bytes (at + 2 * j) 0 → m ≡ get_or bytes (at + 2 * j + 1) 0 → m ≤ 1 → u ≡ (m == 1)
    → IndexesRead bytes at j ranks used → IndexesRead bytes at (j + 1) (ranks ++ r ∷ []) (used ++ u ∷ [])
indexes_read_more bytes at j r m u ranks used fits is_r is_m small is_u i =
    let x : List ℕ = drop at bytes in
    let long : length x ≡ length bytes - at = length-drop at bytes in
    let a : 2 * j < length x = omega arith in
    let b : 2 * j + 1 < length x = omega arith in
    let one : take (2 * j + 1) x ≡ take (2 * j) x ++ get_or x (2 * j) 0 ∷ [] = take_more x (2 * j) 0 a in
    let two : take ((2 * j + 1) + 1) x ≡ take (2 * j + 1) x ++ get_or x (2 * j + 1) 0 ∷ [] = take_more x (2 * j + 1) 0 b in
    let gr : r ≡ get_or x (2 * j) 0 = is_r ∙ sym (get_or-drop at bytes (2 * j) 0) in
    let gm : mark_of u ≡ get_or x (2 * j + 1) 0 = ap mark_of is_u ∙ mark_back m small ∙ is_m ∙ ap (λ (n : ℕ). get_or bytes n 0) (let e : at + 2 * j + 1 ≡ at + (2 * j + 1) = omega arith in e) ∙ sym (get_or-drop at bytes (2 * j + 1) 0) in
    record {
      spelled = index_push ranks used r u (i.used_many ∙ sym i.ranks_many) ∙ ap (λ (xs : List ℕ). xs ++ r ∷ mark_of u ∷ []) i.spelled
          ∙ ap (λ (n : ℕ). take (2 * j) x ++ n ∷ mark_of u ∷ []) gr ∙ ap (λ (n : ℕ). take (2 * j) x ++ get_or x (2 * j) 0 ∷ n ∷ []) gm
          ∙ sym (append_assoc (take (2 * j) x) (get_or x (2 * j) 0 ∷ []) (get_or x (2 * j + 1) 0 ∷ []))
          ∙ ap (λ (xs : List ℕ). xs ++ get_or x (2 * j + 1) 0 ∷ []) (sym one) ∙ sym two ∙ ap (λ (n : ℕ). take n x) (let e : (2 * j + 1) + 1 ≡ 2 * (j + 1) = omega arith in e);
      ranks_many = omega (arith, length-append ranks (r ∷ []), i.ranks_many);
      used_many = omega (arith, length-append used (u ∷ []), i.used_many);
    }
