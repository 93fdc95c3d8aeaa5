-- One option more.
use Rattle.std.proofs.Common.{◌≡◌, ℕ, suc, ◌+◌, ◌≤◌, ◌-◌, get_or, take, drop, ◌||◌, ◌&&◌, Bool, true, false, nat_lt, List, [], ◌∷◌, ◌++◌, length, filter, Option, Some, None, Result, Ok, Err, refl, sym, ap, ◌∙◌, append_assoc, if◌then◌else◌}
use native.Mathlib.Omega.{arith}
use Rattle.std.specs.Prelude.{is_some, IfSome}
use Rattle.std.proofs.Math.Seq.{take-length}
use Rattle.std.specs.List.{list_any, AllByRecursion}
use Rattle.std.specs.Option.{option_or}
use Rattle.std.proofs.lemmas.Bool.Decides.{nat_tests}
use Rattle.proxy_types.specs.declared.table.KeyType.{KeyType}
use Rattle.conf_line.specs.declared.statement.TableOption.{TableOption}
use Rattle.conf_line.specs.declared.statement.TableOption.TheVariants as options
use Rattle.list_core.specs.Each.{◌>>=◌}
use Rattle.conf_line.specs.Servers.{has_value, server_flag, server_options, is_check, is_disabled, is_excess, is_send_proxy, is_send_proxy_v2, option_fall, option_inter, option_limit, option_rise, option_weight, options_of, with_option}
use Rattle.conf_line.specs.declared.statement.ServerOption.{ServerOption}
use Rattle.conf_line.specs.declared.statement.ServerOption.TheVariants as flags
use Rattle.conf_line.specs.Sound.{AreSoundChecks, AreSoundOptions, IsSoundInterval, IsSoundLimit, IsSoundOption, IsSoundWeight, IsWithin}
use Rattle.conf_line.specs.declared.statement.TheConstants.{MOST_CHECKS, MOST_INTERVAL}
use Rattle.proxy_types.specs.declared.limits.TheConstants.{GREATEST_WEIGHT, MOST_CONNECTIONS}
use Rattle.conf_line.specs.Words.{last_of, onto, after}
use Rattle.conf_line.specs.Tables.{option_keys, option_size, option_expire, is_keys, is_size, is_expire, has_repeat}

or_none : {Y : Type 0} (a : Option Y) → option_or a None ≡ a
or_none None = refl
or_none (Some y) = refl

or_assoc : {Y : Type 0} (a b c : Option Y) → option_or (option_or a b) c ≡ option_or a (option_or b c)
or_assoc None b c = refl
or_assoc (Some a) b c = refl

pub last_more : {X Y : Type 0} (value : X → Option Y) (xs : List X) (x : X) → last_of value (xs ++ x ∷ []) ≡ option_or (value x) (last_of value xs)
last_more value [] x = sym (or_none (value x))
last_more value (y ∷ xs) x = ap (λ o. option_or o (value y)) (last_more value xs x) ∙ or_assoc (value x) (last_of value xs) (value y)

any_assoc : (a b c : Bool) → (a || (b || c)) ≡ ((a || b) || c)
any_assoc true b c = refl
any_assoc false b c = refl

any_one : (a : Bool) → (a || false) ≡ a
any_one true = refl
any_one false = refl

pub any_more : {X : Type 0} (test : X → Bool) (xs : List X) (x : X) → list_any test (xs ++ x ∷ []) ≡ (list_any test xs || test x)
any_more test [] x = any_one (test x)
any_more test (y ∷ xs) x = ap (λ b. test y || b) (any_more test xs x) ∙ any_assoc (test y) (list_any test xs) (test x)

count_more : {X : Type 0} (test : X → Bool) (xs : List X) (x : X) → length (filter test (xs ++ x ∷ [])) ≡ length (filter test xs) + (if test x then 1 else 0)
count_more test [] x = by (test x)
  where
    by : (b : Bool) → length (if b then x ∷ [] else []) ≡ 0 + (if b then 1 else 0)
    by true = refl
    by false = refl
count_more test (y ∷ xs) x = by (count_more test xs x) (test y) (if test x then 1 else 0)
  where
    by : length (filter test (xs ++ x ∷ [])) ≡ length (filter test xs) + (if test x then 1 else 0) → (b : Bool) (n : ℕ) →
        length (if b then y ∷ filter test (xs ++ x ∷ []) else filter test (xs ++ x ∷ [])) ≡ length (if b then y ∷ filter test xs else filter test xs) + (if test x then 1 else 0)
    by more true n = ap (λ m. suc m) more ∙ (omega arith)
    by more false n = more

positive : (n : ℕ) → nat_lt 0 (suc n) ≡ true
positive n = grind (arith, nat_tests)

some_keys : (all : List TableOption) → is_some (last_of option_keys all) ≡ nat_lt 0 (length (filter is_keys all))
some_keys [] = refl
some_keys (options.Keys keys ∷ all) = by (last_of option_keys all) ∙ sym (positive (length (filter is_keys all)))
  where
    by : (o : Option KeyType) → is_some (option_or o (Some keys)) ≡ true
    by None = refl
    by (Some k) = refl
some_keys (options.Size size ∷ all) = by (last_of option_keys all) (some_keys all)
  where
    by : (o : Option KeyType) → is_some o ≡ nat_lt 0 (length (filter is_keys all)) → is_some (option_or o None) ≡ nat_lt 0 (length (filter is_keys all))
    by None is = is
    by (Some k) is = is
some_keys (options.Store stores ∷ all) = by (last_of option_keys all) (some_keys all)
  where
    by : (o : Option KeyType) → is_some o ≡ nat_lt 0 (length (filter is_keys all)) → is_some (option_or o None) ≡ nat_lt 0 (length (filter is_keys all))
    by None is = is
    by (Some k) is = is
some_keys (options.Expire ms ∷ all) = by (last_of option_keys all) (some_keys all)
  where
    by : (o : Option KeyType) → is_some o ≡ nat_lt 0 (length (filter is_keys all)) → is_some (option_or o None) ≡ nat_lt 0 (length (filter is_keys all))
    by None is = is
    by (Some k) is = is

some_size : (all : List TableOption) → is_some (last_of option_size all) ≡ nat_lt 0 (length (filter is_size all))
some_size [] = refl
some_size (options.Keys keys ∷ all) = by (last_of option_size all) (some_size all)
  where
    by : (o : Option ℕ) → is_some o ≡ nat_lt 0 (length (filter is_size all)) → is_some (option_or o None) ≡ nat_lt 0 (length (filter is_size all))
    by None is = is
    by (Some k) is = is
some_size (options.Size size ∷ all) = by (last_of option_size all) ∙ sym (positive (length (filter is_size all)))
  where
    by : (o : Option ℕ) → is_some (option_or o (Some size)) ≡ true
    by None = refl
    by (Some k) = refl
some_size (options.Store stores ∷ all) = by (last_of option_size all) (some_size all)
  where
    by : (o : Option ℕ) → is_some o ≡ nat_lt 0 (length (filter is_size all)) → is_some (option_or o None) ≡ nat_lt 0 (length (filter is_size all))
    by None is = is
    by (Some k) is = is
some_size (options.Expire ms ∷ all) = by (last_of option_size all) (some_size all)
  where
    by : (o : Option ℕ) → is_some o ≡ nat_lt 0 (length (filter is_size all)) → is_some (option_or o None) ≡ nat_lt 0 (length (filter is_size all))
    by None is = is
    by (Some k) is = is

some_expire : (all : List TableOption) → is_some (last_of option_expire all) ≡ nat_lt 0 (length (filter is_expire all))
some_expire [] = refl
some_expire (options.Keys keys ∷ all) = by (last_of option_expire all) (some_expire all)
  where
    by : (o : Option ℕ) → is_some o ≡ nat_lt 0 (length (filter is_expire all)) → is_some (option_or o None) ≡ nat_lt 0 (length (filter is_expire all))
    by None is = is
    by (Some k) is = is
some_expire (options.Size size ∷ all) = by (last_of option_expire all) (some_expire all)
  where
    by : (o : Option ℕ) → is_some o ≡ nat_lt 0 (length (filter is_expire all)) → is_some (option_or o None) ≡ nat_lt 0 (length (filter is_expire all))
    by None is = is
    by (Some k) is = is
some_expire (options.Store stores ∷ all) = by (last_of option_expire all) (some_expire all)
  where
    by : (o : Option ℕ) → is_some o ≡ nat_lt 0 (length (filter is_expire all)) → is_some (option_or o None) ≡ nat_lt 0 (length (filter is_expire all))
    by None is = is
    by (Some k) is = is
some_expire (options.Expire ms ∷ all) = by (last_of option_expire all) ∙ sym (positive (length (filter is_expire all)))
  where
    by : (o : Option ℕ) → is_some (option_or o (Some ms)) ≡ true
    by None = refl
    by (Some k) = refl

one_more : (n : ℕ) (k : Bool) → nat_lt 1 (n + (if k then 1 else 0)) ≡ (nat_lt 1 n || (k && nat_lt 0 n))
one_more n true = grind (arith, nat_tests)
one_more n false = grind (arith, nat_tests)

-- what is there of three, and what comes to each
three_more : (n m l k s e : Bool) → (((n || k) || (m || s)) || (l || e)) ≡ (((n || m) || l) || (k || s || e))
three_more true m l k s e = refl
three_more false true l true s e = refl
three_more false true l false s e = refl
three_more false false true true s e = refl
three_more false false true false true e = refl
three_more false false true false false e = refl
three_more false false false true s e = refl
three_more false false false false true e = refl
three_more false false false false false e = refl

pub repeat_more : (all : List TableOption) (option : TableOption) →
    has_repeat (all ++ option ∷ []) ≡
    (has_repeat all || ((is_keys option && is_some (last_of option_keys all)) || (is_size option && is_some (last_of option_size all)) || (is_expire option && is_some (last_of option_expire all))))
repeat_more all option =
    rw (
      count_more is_keys all option,
      count_more is_size all option,
      count_more is_expire all option,
      some_keys all,
      some_size all,
      some_expire all,
      one_more (length (filter is_keys all)) (is_keys option),
      one_more (length (filter is_size all)) (is_size option),
      one_more (length (filter is_expire all)) (is_expire option),
    )
    (three_more (nat_lt 1 (length (filter is_keys all))) (nat_lt 1 (length (filter is_size all))) (nat_lt 1 (length (filter is_expire all)))
    (is_keys option && nat_lt 0 (length (filter is_keys all))) (is_size option && nat_lt 0 (length (filter is_size all))) (is_expire option && nat_lt 0 (length (filter is_expire all))))

pub after_none : {X F : Type 0} (read : Result (List X) F) → after [] read ≡ read
after_none (Err fault) = refl
after_none (Ok more) = refl

pub after_more : {X F : Type 0} (done : List X) (x : X) (more : Result (List X) F) → after (done ++ x ∷ []) more ≡ after done (onto x more)
after_more done x (Err fault) = refl
after_more done x (Ok more) = ap (λ xs. Ok xs) (append_assoc done (x ∷ []) more)

pub after_err : {X F : Type 0} (done : List X) (read : Result (List X) F) (fault : F) → read ≡ Err fault → after done read ≡ Err fault
after_err done read fault is = rw is refl

-- The words after an option.

pub flag_first : (name : List ℕ) (words : List (List ℕ)) → has_value name ≡ false → server_options (name ∷ words) ≡ (server_flag name >>= λ option. onto option (server_options words))
flag_first name [] is = rw is refl
flag_first name (value ∷ words) is = rw is refl

pub drop_one : {X : Type 0} (xs : List X) → length (drop 1 xs) ≤ length xs
drop_one [] = (omega arith)
drop_one (x ∷ xs) = (omega arith)

-- the first of some words, and those after it
pub first_and_rest : {X : Type 0} (xs : List X) (x : X) → 1 ≤ length xs → x ≡ get_or xs 0 x → x ∷ take (length xs - 1) (drop 1 xs) ≡ xs
first_and_rest [] x some is = absurd (omega arith)
first_and_rest (y ∷ xs) x some is =
    let same : suc (length xs) - 1 ≡ length xs = omega arith in
    ap (λ z. z ∷ take (suc (length xs) - 1) xs) is ∙ ap (λ n. y ∷ take n xs) same ∙ ap (λ zs. y ∷ zs) (take-length xs)

-- What holds of each value.

pub or_sound : (P : ℕ → Type 0) (a b : Option ℕ) → IfSome a P → IfSome b P → IfSome (option_or a b) P
or_sound P None b one other = other
or_sound P (Some n) b one other = one

pub neither : (a b : Bool) → (a || b) ≡ false → (a ≡ false) × (b ≡ false)
neither true b is = absurd cc
neither false b is = (refl, is)

pub all_more : {X : Type 0} (P : X → Type 0) (xs : List X) (x : X) → AllByRecursion P xs → P x → AllByRecursion P (xs ++ x ∷ [])
all_more P [] x each one = (one, tt)
all_more P (y ∷ xs) x (first, each) one = (first, all_more P xs x each one)

weight_sound : (option : ServerOption) → IsSoundOption option → is_excess option ≡ false → IsSoundWeight (option_weight option)
weight_sound (flags.Weight weight) sound is = sound
weight_sound other sound is = tt

limit_sound : (option : ServerOption) → IsSoundOption option → is_excess option ≡ false → IsSoundLimit (option_limit option)
limit_sound (flags.MaxConn limit) sound is = grind (arith, nat_tests)
limit_sound other sound is = tt

inter_sound : (option : ServerOption) → IsSoundOption option → is_excess option ≡ false → IsSoundInterval (option_inter option)
inter_sound (flags.Inter ms) sound is = (sound, grind (arith, nat_tests))
inter_sound other sound is = tt

fall_sound : (option : ServerOption) → IsSoundOption option → is_excess option ≡ false → AreSoundChecks (option_fall option)
fall_sound (flags.Fall count) sound is = (sound, grind (arith, nat_tests))
fall_sound other sound is = tt

rise_sound : (option : ServerOption) → IsSoundOption option → is_excess option ≡ false → AreSoundChecks (option_rise option)
rise_sound (flags.Rise count) sound is = (sound, grind (arith, nat_tests))
rise_sound other sound is = tt

last_sound : (P : ℕ → Type 0) (value : ServerOption → Option ℕ) → ((option : ServerOption) → IsSoundOption option → is_excess option ≡ false → IfSome (value option) P) →
    (all : List ServerOption) → AllByRecursion IsSoundOption all → list_any is_excess all ≡ false → IfSome (last_of value all) P
last_sound P value each [] sound none = tt
last_sound P value each (option ∷ all) (one, sound) none =
    let parts = neither (is_excess option) (list_any is_excess all) none in
    or_sound P (last_of value all) (value option) (last_sound P value each all sound parts.1) (each option one parts.0)

-- Options of a server together.

pub options_sound : (all : List ServerOption) → AllByRecursion IsSoundOption all → list_any is_excess all ≡ false → AreSoundOptions (options_of all)
options_sound all sound none = (
  last_sound (λ w. w ≤ GREATEST_WEIGHT) option_weight weight_sound all sound none,
  last_sound (λ l. l ≤ MOST_CONNECTIONS) option_limit limit_sound all sound none,
  last_sound (IsWithin MOST_INTERVAL) option_inter inter_sound all sound none,
  last_sound (IsWithin MOST_CHECKS) option_fall fall_sound all sound none,
  last_sound (IsWithin MOST_CHECKS) option_rise rise_sound all sound none,
)

pub options_more : (all : List ServerOption) (option : ServerOption) → options_of (all ++ option ∷ []) ≡ with_option (options_of all) option
options_more all option =
    rw (
      last_more option_weight all option,
      last_more option_limit all option,
      last_more option_inter all option,
      last_more option_fall all option,
      last_more option_rise all option,
      any_more is_disabled all option,
      any_more is_send_proxy all option,
      any_more is_send_proxy_v2 all option,
      any_more is_check all option,
      any_more is_excess all option,
    ) refl
