-- What symbols and constructor variables are called.
use Rattle.std.specs.Prelude.{ℕ, ◌+◌, ◌==◌, Bool, true, false, bytes_eq, List, [], ◌∷◌, ◌++◌, get_or, slice_get, codes, decimal, Option, Some, None, if◌then◌else◌}
use Rattle.std.specs.List.{list_any, before_first, after_first}
use Rattle.con_terms.specs.Trees.{Kd, types, units, names, row_of, to, tuple_of}
use Rattle.core_terms.specs.Names.{bool_name, option_name, list_name, false_name, true_name, none_name, some_name, nil_name, cons_name}

-- a datatype: its type's symbol, its module, its name in the source, and the names of its constructors
pub record Declared : Type 0 where
  pub symbol : ℕ
  pub home : Option ℕ
  pub name : ℕ
  pub builders : List ℕ

-- what a text is printed over: the texts of the symbols, the modules' names, the datatypes, the symbols of the types of
-- folders, and the number of the module whose text it is
pub record Known : Type 0 where
  pub texts : List (List ℕ)
  pub modules : List (List ℕ)
  pub types : List Declared
  pub folders : List ℕ
  pub file : ℕ

-- what is printed where there is no name
abbrev pub nameless : List ℕ
nameless = codes "_"

-- the text of a symbol, and the name of a module
abbrev pub text_of : Known → ℕ → List ℕ
text_of g s = get_or g.texts s nameless

abbrev pub module_of : Known → ℕ → List ℕ
module_of g m = get_or g.modules m nameless

-- the first datatype with a symbol
abbrev pub declared_as : List Declared → ℕ → Option Declared
declared_as [] s = None
declared_as (d ∷ ds) s = if d.symbol == s then Some d else declared_as ds s

-- a name behind that of its module
abbrev pub qualified : List ℕ → List ℕ → List (List ℕ)
qualified m x = m ∷ codes "." ∷ x ∷ []

-- a name of a module; the module is said where it isn't the one whose text it is
abbrev pub name_in : Known → Option ℕ → ℕ → List (List ℕ)
name_in g None x = text_of g x ∷ []
name_in g (Some m) x = if m == g.file then text_of g x ∷ [] else qualified (module_of g m) (text_of g x)

-- A type by the text of its symbol: the module of a datatype, a dot and its name, and behind a `#` a number, where an
-- earlier type has the same. The number isn't printed, and the module where it isn't the one whose text it is.
abbrev pub dotted_words : Known → Bool → List ℕ → List (List ℕ)
dotted_words g false t = t ∷ []
dotted_words g true t =
    if bytes_eq (before_first (λ b. b == 46) t) (module_of g g.file)
    then after_first (λ b. b == 46) t ∷ []
    else qualified (before_first (λ b. b == 46) t) (after_first (λ b. b == 46) t)

abbrev pub text_words : Known → List ℕ → List (List ℕ)
text_words g t = dotted_words g (list_any (λ b. b == 46) t) t

-- the name of a type
abbrev pub declared_words : Known → ℕ → Option Declared → List (List ℕ)
declared_words g s (Some d) = name_in g d.home d.name
declared_words g s None = text_words g (before_first (λ b. b == 35) (text_of g s))

abbrev pub type_words : Known → ℕ → List (List ℕ)
type_words g s =
    if list_any (λ f. f == s) g.folders then codes "folder" ∷ [] else declared_words g s (declared_as g.types s)

-- the constructors of the datatypes that every program has, by their places
abbrev pub one_of : ℕ → ℕ → ℕ → ℕ
one_of i first second = if i == 0 then first else second

abbrev pub basis_builder : ℕ → ℕ → Option ℕ
basis_builder s i =
    if s == bool_name then Some (one_of i false_name true_name)
    else if s == option_name then Some (one_of i none_name some_name)
    else if s == list_name then Some (one_of i nil_name cons_name)
    else None

-- the name of a constructor of a datatype, by its place
abbrev pub builder_at : Known → Option ℕ → Option ℕ → List (List ℕ)
builder_at g home None = nameless ∷ []
builder_at g home (Some x) = name_in g home x

abbrev pub builder_of : Known → ℕ → Option Declared → List (List ℕ)
builder_of g i None = nameless ∷ []
builder_of g i (Some d) = builder_at g d.home (slice_get d.builders i)

abbrev pub builder_words : Known → ℕ → ℕ → List (List ℕ)
builder_words g s i = elim (basis_builder s i) [
  | Some x ↦ text_of g x ∷ []
  | None ↦ builder_of g i (declared_as g.types s)
]

-- a name as a constructor: `#A`
abbrev pub label_word : Known → ℕ → List ℕ
label_word g s = codes "#" ++ text_of g s

-- what a constructor variable is called, by those in scope, the innermost first
abbrev pub variable_word : List (List ℕ) → ℕ → List ℕ
variable_word called i = get_or called i nameless

-- What a variable of a kind is called where its source's name is lost: a letter or two by its kind, and behind them the
-- least number with which no variable in scope is called so; 0 isn't written. Of so many numbers as there are variables
-- in scope and one more, one is free.
abbrev pub first_letters : Kd → List ℕ
first_letters types = codes "t"
first_letters units = codes "c"
first_letters names = codes "nm"
first_letters (row_of k) = codes "r"
first_letters (to k l) = codes "f"
first_letters (tuple_of ks) = codes "c"

abbrev pub numbered : List ℕ → ℕ → List ℕ
numbered letters n = if n == 0 then letters else letters ++ decimal n

abbrev pub is_taken : List (List ℕ) → List ℕ → Bool
is_taken called word = list_any (λ other. bytes_eq other word) called

abbrev pub free_from : List (List ℕ) → List (List ℕ) → List ℕ → ℕ → List ℕ
free_from called [] letters n = numbered letters n
free_from called (x ∷ more) letters n =
    if is_taken called (numbered letters n) then free_from called more letters (n + 1) else numbered letters n

abbrev pub new_name : List (List ℕ) → Kd → List ℕ
new_name called k = free_from called called (first_letters k) 0
