use Rattle.std.specs.Prelude.{ℕ, Bool, true, List, [], ◌∷◌, ◌==◌, ◌&&◌, ◌||◌, if◌then◌else◌}
use Rattle.lex_core.specs.LogicalLines.{is_blank, is_alone}
use Rattle.lex_core.specs.declared.sign.Place.{Place}
use Rattle.lex_core.specs.declared.sign.Place.TheVariants.{InText, InComment, BehindMark}
use Rattle.lex_core.specs.declared.sign.Sign.{Sign}
use Rattle.lex_core.specs.declared.sign.Sign.TheVariants.{Part, Alone, Gap, Hash, Mark, Join, End}

-- What each byte of a text is: a byte of a word, a gap between words, or the end of a line.

-- nothing is left of the physical line, but for blanks at its end and a comment
abbrev pub no_more : List ℕ → Bool
no_more [] = true
no_more (b ∷ bs) = (b == 10) || ((b == 35) || (is_blank b && no_more bs))

-- a byte outside of comments, with these bytes behind it; a backslash with nothing left behind it joins two lines
abbrev pub text_sign : ℕ → List ℕ → Sign
text_sign b bs =
    if b == 10 then End
    else (if b == 35 then Hash
    else (if is_blank b then Gap
    else (if (b == 92) && no_more bs then Mark
    else (if is_alone b then Alone
    else Part))))

-- a byte at this place: what stands in a comment or behind the joining backslash is a gap
abbrev pub sign_at : Place → ℕ → List ℕ → Sign
sign_at InText b bs = text_sign b bs
sign_at InComment b bs = if b == 10 then End else Gap
sign_at BehindMark b bs = if b == 10 then Join else Gap

-- the place of the next byte
abbrev pub place_behind : Place → Sign → Place
place_behind place Part = place
place_behind place Alone = place
place_behind place Gap = place
place_behind place Hash = InComment
place_behind place Mark = BehindMark
place_behind place Join = InText
place_behind place End = InText
