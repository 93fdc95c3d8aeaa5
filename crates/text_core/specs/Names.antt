-- Names.
use Rattle.std.specs.Prelude.{◌≡◌, ℕ, Bool, not, ◌≤◌, ◌<◌, ◌&&◌, ◌||◌, ◌==◌, nat_le, nat_lt, slice_index, List, [], ◌∷◌, length, position, Option}
use Rattle.std.specs.List.{list_all, filter}
use Rattle.std.specs.Str.{bytes_eq}

-- digits and `:`, capital letters, small letters, `-`, `.`, `_`
abbrev pub is_name_byte : ℕ → Bool
is_name_byte b = (nat_le 48 b && nat_le b 58) || (nat_le 65 b && nat_le b 90) || (nat_le 97 b && nat_le b 122) || b == 45 || b == 46 || b == 95

abbrev pub is_name : List ℕ → Bool
is_name text = nat_lt 0 (length text) && list_all is_name_byte text

-- the place of the first of that name
abbrev pub place_of : List ℕ → List (List ℕ) → Option ℕ
place_of name names = position (λ other. bytes_eq other name) names

-- each name once, in the order of their first places
abbrev pub distinct : List (List ℕ) → List (List ℕ)
distinct [] = []
distinct (name ∷ names) = name ∷ filter (λ other. not (bytes_eq other name)) (distinct names)

-- two texts have the same bytes from a place to another
abbrev pub AreSameBetween : List ℕ → List ℕ → ℕ → ℕ → Type 0
AreSameBetween one other from to = (k : ℕ) → from ≤ k → k < to → slice_index one k ≡ slice_index other k
