-- Private: how a line is read. That this is what the spellings say is a law.
use Rattle.std.specs.Prelude.{ℕ, ◌^◌, Bool, false, ◌&&◌, ◌||◌, not, ◌==◌, nat_le, nat_lt, List, [], ◌∷◌, length, codes, Option, Some, None, option_map, option_and_then, if◌then◌else◌}
use Rattle.std.specs.List.{list_all}
use Rattle.std.specs.Str.{bytes_eq, all_ascii_digits}
use Rattle.std.specs.Str.Parse.{digits_value}
use Rattle.ob_base.specs.Clients.{most_clients}
use Rattle.ob_script.specs.declared.line.Ask.{Ask}
use Rattle.ob_script.specs.declared.line.Ask.TheVariants.{Get, Put, Del, Add}
use Rattle.ob_script.specs.declared.line.Ending.TheVariants.{Commit, Abort}
use Rattle.ob_script.specs.declared.line.Line.{Line}
use Rattle.ob_script.specs.declared.line.Line.TheVariants.{Blank, Client, Begin, Asks, Ends}
use Rattle.ob_script.specs.Integers.{integer_of}
use Rattle.ob_script.specs.Script.{is_blank, is_plain}

-- what stands before the first such byte, and what behind it
abbrev pub cut : ℕ → List ℕ → Option (List ℕ × List ℕ)
cut at [] = None
cut at (x ∷ xs) = if x == at then Some ([], xs) else option_map (λ p. (x ∷ p.0, p.1)) (cut at xs)

-- digits with no zero in front, but `0` alone
abbrev pub is_numeral : List ℕ → Bool
is_numeral [] = false
is_numeral (d ∷ ds) = all_ascii_digits (d ∷ ds) && (not (d == 48) || length ds == 0)

abbrev pub numeral_value : List ℕ → Option ℕ
numeral_value bytes = if is_numeral bytes && nat_lt (digits_value 10 bytes) (2 ^ 32) then Some (digits_value 10 bytes) else None

abbrev pub client_numeral : List ℕ → Option Line
client_numeral bytes = option_and_then (λ client. if nat_le 1 client && nat_le client most_clients then Some (Client client) else None) (numeral_value bytes)

abbrev pub key_numeral : ℕ → List ℕ → Option ℕ
key_numeral n bytes = option_and_then (λ key. if nat_lt key n then Some key else None) (numeral_value bytes)

abbrev pub get_at : ℕ → List ℕ → Option Ask
get_at n bytes = option_map Get (key_numeral n bytes)

abbrev pub del_at : ℕ → List ℕ → Option Ask
del_at n bytes = option_map Del (key_numeral n bytes)

abbrev pub put_of : List ℕ → ℕ → Option Ask
put_of value key = if nat_le (length value) 64 && list_all is_plain value then Some (Put key value) else None

abbrev pub add_of : List ℕ → ℕ → Option Ask
add_of text key = option_map (λ amount. Add key amount) (integer_of text)

abbrev pub put_at : ℕ → List ℕ → Option Ask
put_at n bytes = option_and_then (λ p. option_and_then (put_of p.1) (key_numeral n p.0)) (cut 32 bytes)

abbrev pub add_at : ℕ → List ℕ → Option Ask
add_at n bytes = option_and_then (λ p. option_and_then (add_of p.1) (key_numeral n p.0)) (cut 32 bytes)

abbrev pub ask_at : ℕ → List ℕ → List ℕ → Option Ask
ask_at n word rest = if bytes_eq word (codes "get") then get_at n rest
    else if bytes_eq word (codes "put") then put_at n rest
    else if bytes_eq word (codes "del") then del_at n rest
    else if bytes_eq word (codes "add") then add_at n rest
    else None

abbrev pub word_line : List ℕ → Option Line
word_line text = if bytes_eq text (codes "begin") then Some Begin
    else if bytes_eq text (codes "commit") then Some (Ends Commit)
    else if bytes_eq text (codes "abort") then Some (Ends Abort)
    else None

abbrev pub named_line : ℕ → List ℕ → List ℕ → Option Line
named_line n word rest = if bytes_eq word (codes "client") then client_numeral rest else option_map Asks (ask_at n word rest)

abbrev pub line_from : ℕ → List ℕ → Option (List ℕ × List ℕ) → Option Line
line_from n text None = word_line text
line_from n text (Some p) = named_line n p.0 p.1

abbrev pub line_at : ℕ → List ℕ → Option Line
line_at n text = if is_blank text then Some Blank else line_from n text (cut 32 text)
