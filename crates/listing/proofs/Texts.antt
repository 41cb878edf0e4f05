-- The pieces that are written are the text.
use Rattle.std.proofs.Common.{◌≡◌, ℕ, zero, suc, ◌+◌, ◌-◌, ◌^◌, ◌<◌, ◌≤◌, List, [], ◌∷◌, ◌++◌, length, get_or, take, replicate, vec_items, Vec, sym, refl, ap, ◌∙◌, nat_eq, false, arith, rules, tests}
use Rattle.std.proofs.lemmas.Str.Ascii.{encode_ascii}
use Rattle.std.proofs.lemmas.List.{append_assoc, append-nil, take_all, take_more}
use Rattle.std.proofs.Output.{has_written_of_eq, has_written_append}
use Rattle.std.specs.List.{repeat}
use Rattle.std.specs.Fmt.{HasWritten, styled_text, format_spec, padded, take_chars, char_count}
use Rattle.std.specs.declared.fmt.Formatter.{Formatter}
use Rattle.std.specs.declared.alloc.Global.{Global}
use Rattle.listing.specs.declared.line.Line.{Line}
use Rattle.listing.specs.Words.{line_text}
use Rattle.listing.specs.Pages.{ended, lines_text}

-- what `{:width$}` writes of no text
spaces_are : (n : ℕ) → repeat {A = ℕ} n (32 ∷ []) ≡ replicate n 32
spaces_are zero = refl
spaces_are (suc n) = ap {B = List ℕ} (λ x. 32 ∷ x) (spaces_are n)

pub spaces : (width : ℕ) → styled_text (format_spec 32 0 0 width (2 ^ 64 - 1)) [] ≡ replicate width 32
unfolding padded take_chars char_count
spaces zero = refl
spaces (suc n) =
    let some : nat_eq (suc n) 0 ≡ false = search (rules, tests) in
    let all : suc n - 0 - 0 ≡ suc n = omega arith in
    rw some (rw all (rw (encode_ascii 32 (omega arith)) (spaces_are (suc n))))

lines_text_append : (ks ls : List Line) → lines_text (ks ++ ls) ≡ lines_text ks ++ lines_text ls
lines_text_append [] ls = refl
lines_text_append (k ∷ ks) ls =
    ap (λ (x : List ℕ). ended (line_text k) ++ x) (lines_text_append ks ls) ∙ sym (append_assoc (ended (line_text k)) (lines_text ks) (lines_text ls))

-- one line more
lines_on : (ls : List Line) (i : ℕ) (d : Line) → i < length ls → lines_text (take i ls) ++ ended (line_text (get_or ls i d)) ≡ lines_text (take (i + 1) ls)
lines_on ls i d l =
    ap (λ (x : List ℕ). lines_text (take i ls) ++ x) (sym (append-nil (ended (line_text (get_or ls i d)))))
    ∙ sym (ap lines_text (take_more ls i d l) ∙ lines_text_append (take i ls) (get_or ls i d ∷ []))

pub put_line : {W : Type 0} (took : W → List ℕ → W → Type 0) (f g h : Formatter W) (ls : List Line) (i : ℕ) (d : Line) → i < length ls →
    HasWritten took f (lines_text (take i ls)) g → HasWritten took g (ended (line_text (get_or ls i d))) h → HasWritten took f (lines_text (take (i + 1) ls)) h
put_line took f g h ls i d l p q = has_written_of_eq took f _ _ h (lines_on ls i d l) (has_written_append took f _ g _ h p q)

pub lines_all : (v : Vec Line Global) (ls : List Line) (i : ℕ) → length ls ≤ i → ls ≡ vec_items v → lines_text (take i ls) ≡ lines_text (vec_items v)
lines_all v ls i l e = ap lines_text (take_all i ls l ∙ e)
