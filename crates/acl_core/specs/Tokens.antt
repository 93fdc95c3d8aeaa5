-- The tokens of a condition: `!`, `or`, a test in braces, and any other word.
use Rattle.std.specs.Prelude.{ℕ, Bool, true, false, ◌||◌, ◌==◌, List, [], ◌∷◌, ◌++◌, Option, Some, None, codes, if◌then◌else◌}
use Rattle.std.specs.Str.{bytes_eq}
use Rattle.acl_core.specs.declared.token.Token.{Token}
use Rattle.acl_core.specs.declared.token.Token.TheVariants.{Not, Or, Plain, Braces, OpenBrace}

-- the `!` at the head of a word: 33
abbrev pub marks : List ℕ → List Token
marks [] = []
marks (byte ∷ more) = if byte == 33 then Not ∷ marks more else []

-- the word after them
abbrev pub bare : List ℕ → List ℕ
bare [] = []
bare (byte ∷ more) = if byte == 33 then bare more else byte ∷ more

-- a word outside braces, after its marks
abbrev pub plain : List ℕ → List Token
plain [] = []
plain (byte ∷ more) =
    if bytes_eq (byte ∷ more) (codes "or") || bytes_eq (byte ∷ more) (codes "||") then Or ∷ []
    else Plain (byte ∷ more) ∷ []

-- the tokens of words, after an open brace and the words since then if there is one
abbrev pub tokens_after : Option (List (List ℕ)) → List (List ℕ) → List Token
tokens_after None [] = []
tokens_after (Some inside) [] = OpenBrace inside ∷ []
tokens_after None (word ∷ rest) =
    marks word ++ (if bytes_eq (bare word) (codes "{") then tokens_after (Some []) rest else plain (bare word) ++ tokens_after None rest)
tokens_after (Some inside) (word ∷ rest) =
    if bytes_eq word (codes "}") then Braces inside ∷ tokens_after None rest
    else tokens_after (Some (inside ++ word ∷ [])) rest

abbrev pub tokens_of : List (List ℕ) → List Token
tokens_of words = tokens_after None words

abbrev pub is_or : Token → Bool
is_or Or = true
is_or token = false

abbrev pub is_not : Token → Bool
is_not Not = true
is_not token = false
