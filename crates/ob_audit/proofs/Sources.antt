-- What is answered to the bytes that a source had left.
use Rattle.std.proofs.Common.{◌≡◌, ◌≤◌, ◌<◌, ◌+◌, ℕ, List, [], ◌∷◌, ◌++◌, get_or, length, take, drop, Option, Some, None, sym, ap, ◌∙◌, subst, arith, append_assoc}
use Rattle.std.specs.Prelude.{MatchOption}
use Rattle.std.proofs.lemmas.List.{append-nil, take_all, take_more, take-append-drop}
use Rattle.ob_io.specs.Flows.{prepended, IsAtEnd}
use Rattle.ob_audit.specs.declared.verdict.Audit.{Audit}
use Rattle.ob_audit.specs.Traces.{IsVerdict, IsAudited}
use Rattle.ob_audit.specs.declared.reader.Reader.{Reader}
use Rattle.ob_audit.specs.Reader.{HasReadLines, IsSettled}

-- what is settled behind a front of a piece is settled behind the piece
pub settled_later : (limit : ℕ) (bytes piece : List ℕ) (i : ℕ) (audit : Audit) → IsSettled limit (bytes ++ take i piece) audit → IsSettled limit (bytes ++ piece) audit
settled_later limit bytes piece i audit settled more =
    let whole : (bytes ++ take i piece) ++ (drop i piece ++ more) ≡ (bytes ++ piece) ++ more =
    sym (append_assoc (bytes ++ take i piece) (drop i piece) more)
    ∙ ap (λ (t : List ℕ). t ++ more) (append_assoc bytes (take i piece) (drop i piece))
    ∙ ap (λ (t : List ℕ). (bytes ++ t) ++ more) (take-append-drop i piece) in
    subst (λ (t : List ℕ). IsVerdict limit (take (limit + 1) t) audit) whole (settled (drop i piece ++ more))

-- one byte more of a piece
pub settled_byte : (limit : ℕ) (bytes piece : List ℕ) (i : ℕ) (audit : Audit) → i < length piece → IsSettled limit ((bytes ++ take i piece) ++ get_or piece i 0 ∷ []) audit → IsSettled limit (bytes ++ piece) audit
settled_byte limit bytes piece i audit lt settled =
    settled_later limit bytes piece (i + 1) audit
    (subst (λ (t : List ℕ). IsSettled limit t audit) (append_assoc bytes (take i piece) (get_or piece i 0 ∷ []) ∙ ap (λ (t : List ℕ). bytes ++ t) (sym (take_more piece i 0 lt))) settled)

-- the source had this piece left before the rest
pub audited : (limit : ℕ) (bytes piece : List ℕ) (old new : Option (List ℕ)) (audit : Audit) → old ≡ prepended piece new → IsSettled limit (bytes ++ piece) audit → IsAudited (prepended bytes old) limit audit
audited limit bytes piece old None audit is settled =
    subst (λ (o : Option (List ℕ)). IsAudited (prepended bytes o) limit audit) (sym is) (take (limit + 1) ((bytes ++ piece) ++ []), tt, settled [])
audited limit bytes piece old (Some more) audit is settled =
    subst (λ (o : Option (List ℕ)). IsAudited (prepended bytes o) limit audit) (sym is)
    (take (limit + 1) ((bytes ++ piece) ++ more), ap (λ (t : List ℕ). take (limit + 1) t) (append_assoc bytes piece more), settled more)

-- it had nothing left
pub audited_end : (limit : ℕ) (bytes : List ℕ) (old : Option (List ℕ)) (audit : Audit) → IsAtEnd old → length bytes ≤ limit → IsVerdict limit bytes audit → IsAudited (prepended bytes old) limit audit
audited_end limit bytes None audit end few verdict = (bytes, tt, verdict)
audited_end limit bytes (Some left) audit end few verdict =
    let whole : take (limit + 1) (bytes ++ left) ≡ bytes =
    ap (λ (t : List ℕ). take (limit + 1) (bytes ++ t)) end ∙ ap (λ (t : List ℕ). take (limit + 1) t) (append-nil bytes) ∙ take_all (limit + 1) bytes (omega (arith, few)) in
    (bytes, sym whole, verdict)

-- what was answered isn't nothing
pub no_answer : {P : Type 0} (audit : Audit) → ◌≡◌ {A = Option Audit} (Some audit) None → P
no_answer {P} audit none = absurd (cc)

-- a piece that was taken
pub piece_told : (answer : Option Audit) (limit : ℕ) (bytes piece : List ℕ) (old new : Option (List ℕ)) (r : Reader) → old ≡ prepended piece new
    → MatchOption answer (HasReadLines r (bytes ++ piece)) (λ audit. IsSettled limit (bytes ++ piece) audit)
    → MatchOption answer ((more : List ℕ) × (old ≡ prepended more new) × HasReadLines r (bytes ++ more)) (λ audit. IsAudited (prepended bytes old) limit audit)
piece_told None limit bytes piece old new r is read = (piece, is, read)
piece_told (Some audit) limit bytes piece old new r is settled = audited limit bytes piece old new audit is settled

-- one byte more of a piece was read
pub read_byte : (r : Reader) (bytes piece : List ℕ) (i : ℕ) → i < length piece → HasReadLines r ((bytes ++ take i piece) ++ get_or piece i 0 ∷ []) → HasReadLines r (bytes ++ take (i + 1) piece)
read_byte r bytes piece i lt read =
    subst (λ (t : List ℕ). HasReadLines r t) (append_assoc bytes (take i piece) (get_or piece i 0 ∷ []) ∙ ap (λ (t : List ℕ). bytes ++ t) (sym (take_more piece i 0 lt))) read
