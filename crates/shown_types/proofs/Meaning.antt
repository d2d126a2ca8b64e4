-- What is put behind a text is the words that are shown, each behind a space.
use Rattle.std.proofs.Common.{◌≡◌, ℕ, ◌+◌, nat_lt, Bool, true, false, not, List, [], ◌∷◌, ◌++◌, codes, decimal, map, Option, Some, None, refl, ap, sym, subst, ◌∙◌, append_assoc}
use Rattle.std.proofs.lemmas.List.{append-nil}
use Rattle.con_terms.specs.Trees.{Kd, types, units, names, row_of, to, tuple_of, Kds, no_kinds, kind, Cn, var, basic, arrow, poly, guarded, record_of, app, lambda, unit_con, name, row, cat, map_of, tuple, proj, Cns, no_cons, con, Prs, no_pairs, pair}
use Rattle.shown_types.specs.Words.{spaced, where_wanted, within, put_word, put_words, put_wanted}
use Rattle.shown_types.specs.Names.{Known, type_words, label_word, variable_word, new_name}
use Rattle.shown_types.specs.Order.{in_order}
use Rattle.shown_types.specs.Printed.{put_kind, put_kinds, put_con, put_cons, put_row, put_fields, put_name, put_value}
use Rattle.shown_types.specs.Shown.{kind_words, kinds_words, con_words, cons_words, row_words, fields_words, field_words, field_name_words, colons, is_unit, is_record, literal, literal_text, differing_words}
use Rattle.shown_types.proofs.Orders.{each, order_each}

pub spaced_append : (ws vs : List (List ℕ)) → spaced (ws ++ vs) ≡ spaced ws ++ spaced vs
spaced_append [] vs = refl
spaced_append (w ∷ ws) vs =
    ap (λ t. codes " " ++ w ++ t) (spaced_append ws vs) ∙ ap (λ t. codes " " ++ t) (sym (append_assoc w (spaced ws) (spaced vs)))

-- The text with these words behind it. Two ways to say so, of which the first is the one that goes on.
abbrev pub Puts : List ℕ → List ℕ → List (List ℕ) → Type 0
Puts new old ws = new ≡ old ++ spaced ws

pub no_words : (t : List ℕ) → Puts t t []
no_words t = sym (append-nil t)

pub a_word : (w t u : List ℕ) (ws : List (List ℕ)) → Puts t u ws → Puts (put_word w t) u (ws ++ w ∷ [])
a_word w t u ws e =
    append_assoc t (codes " ") w ∙ ap (λ x. x ++ (codes " " ++ w)) e ∙ append_assoc u (spaced ws) (codes " " ++ w)
    ∙ ap (λ x. u ++ (spaced ws ++ (codes " " ++ x))) (sym (append-nil w))
    ∙ ap (λ x. u ++ x) (sym (spaced_append ws (w ∷ [])))

-- words behind others
pub more : (n t u : List ℕ) (ws vs : List (List ℕ)) → Puts n t vs → Puts t u ws → Puts n u (ws ++ vs)
more n t u ws vs f e =
    f ∙ ap (λ x. x ++ spaced vs) e ∙ append_assoc u (spaced ws) (spaced vs) ∙ ap (λ x. u ++ x) (sym (spaced_append ws vs))

pub all_words : (ws : List (List ℕ)) (t : List ℕ) → Puts (put_words ws t) t ws
all_words [] t = no_words t
all_words (w ∷ ws) t = more (put_words ws (put_word w t)) (put_word w t) t (w ∷ []) ws (all_words ws (put_word w t)) (a_word w t t [] (no_words t))

pub wanted : (b : Bool) (w t : List ℕ) → Puts (put_wanted b w t) t (where_wanted b w)
wanted true w t = a_word w t t [] (no_words t)
wanted false w t = no_words t

-- words in brackets, where these are wanted
pub bracketed : (b : Bool) (f : List ℕ → List ℕ) (ws : List (List ℕ)) → ((t : List ℕ) → Puts (f t) t ws) → (t : List ℕ)
    → Puts (put_wanted b (codes ")") (f (put_wanted b (codes "(") t))) t (within b ws)
bracketed true f ws h t =
    a_word (codes ")") (f (put_word (codes "(") t)) t (codes "(" ∷ ws)
    (more (f (put_word (codes "(") t)) (put_word (codes "(") t) t (codes "(" ∷ []) ws (h (put_word (codes "(") t)) (a_word (codes "(") t t [] (no_words t)))
bracketed false f ws h t = h t

-- a word and then what is put behind that
pub word_then : (f : List ℕ → List ℕ) (w : List ℕ) (ws : List (List ℕ)) → ((t : List ℕ) → Puts (f t) t ws) → (t : List ℕ) → Puts (f (put_word w t)) t (w ∷ ws)
word_then f w ws h t = more (f (put_word w t)) (put_word w t) t (w ∷ []) ws (h (put_word w t)) (a_word w t t [] (no_words t))

-- something and then something else
pub in_turn : (f h : List ℕ → List ℕ) (ws vs : List (List ℕ)) → ((t : List ℕ) → Puts (f t) t ws) → ((t : List ℕ) → Puts (h t) t vs) → (t : List ℕ)
    → Puts (h (f t)) t (ws ++ vs)
in_turn f h ws vs e g t = more (h (f t)) (f t) t ws vs (g (f t)) (e t)

pub one_word : (w t : List ℕ) → Puts (put_word w t) t (w ∷ [])
one_word w t = a_word w t t [] (no_words t)

mutual
  pub kind_is : (b : Bool) (k : Kd) (t : List ℕ) → Puts (put_kind b k t) t (kind_words b k)
  kind_is b types t = one_word (codes "Type") t
  kind_is b units t = one_word (codes "Unit") t
  kind_is b names t = one_word (codes "Name") t
  kind_is b (row_of k) t =
      word_then (λ u. put_word (codes "}") (put_kind false k u)) (codes "{") (kind_words false k ++ codes "}" ∷ [])
      (in_turn (put_kind false k) (put_word (codes "}")) (kind_words false k) (codes "}" ∷ []) (kind_is false k) (one_word (codes "}"))) t
  kind_is b (to k l) t =
      bracketed b (λ u. put_kind false l (put_word (codes "->") (put_kind true k u))) (kind_words true k ++ codes "->" ∷ kind_words false l)
      (in_turn (put_kind true k) (λ u. put_kind false l (put_word (codes "->") u)) (kind_words true k) (codes "->" ∷ kind_words false l)
      (kind_is true k) (word_then (put_kind false l) (codes "->") (kind_words false l) (kind_is false l))) t
  kind_is b (tuple_of ks) t =
      word_then (λ u. put_word (codes ")") (put_kinds true ks u)) (codes "(") (kinds_words true ks ++ codes ")" ∷ [])
      (in_turn (put_kinds true ks) (put_word (codes ")")) (kinds_words true ks) (codes ")" ∷ []) (kinds_are true ks) (one_word (codes ")"))) t

  pub kinds_are : (first : Bool) (ks : Kds) (t : List ℕ) → Puts (put_kinds first ks t) t (kinds_words first ks)
  kinds_are first no_kinds t = no_words t
  kinds_are first (kind k ks) t =
      in_turn (put_wanted (not first) (codes "*")) (λ u. put_kinds false ks (put_kind false k u)) (where_wanted (not first) (codes "*")) (kind_words false k ++ kinds_words false ks)
      (wanted (not first) (codes "*"))
      (in_turn (put_kind false k) (put_kinds false ks) (kind_words false k) (kinds_words false ks) (kind_is false k) (kinds_are false ks)) t

pub name_is : (o : Option (List ℕ)) (f : List ℕ → List ℕ) (ws : List (List ℕ)) → ((t : List ℕ) → Puts (f t) t ws) → (t : List ℕ) → Puts (put_name o f t) t (field_name_words o ws)
name_is (Some w) f ws h t = one_word w t
name_is None f ws h t = h t

value_is : (b : Bool) (n v : List ℕ → List ℕ) (ws vs : List (List ℕ)) → ((t : List ℕ) → Puts (n t) t ws) → ((t : List ℕ) → Puts (v t) t vs) → (t : List ℕ)
    → Puts (put_value b v (n t)) t (field_words ws b vs)
value_is true n v ws vs h k t = h t
value_is false n v ws vs h k t = in_turn n (λ u. v (put_word (codes "=") u)) ws (codes "=" ∷ vs) h (word_then v (codes "=") vs k) t

-- what is put of a field, its words, and that they are these
record Field : Type 0 where
  put : List ℕ → List ℕ
  words : List (List ℕ)
  puts : (t : List ℕ) → Puts (put t) t words

abbrev put_of : Field → List ℕ → List ℕ
put_of f = f.put

abbrev words_of : Field → List (List ℕ)
words_of f = f.words

fields_are : (fs : List Field) (first : Bool) (t : List ℕ) → Puts (put_fields first (map put_of fs) t) t (fields_words first (map words_of fs))
fields_are [] first t = no_words t
fields_are (f ∷ fs) first t =
    in_turn (put_wanted (not first) (codes ",")) (λ u. put_fields false (map put_of fs) (f.put u)) (where_wanted (not first) (codes ",")) (f.words ++ fields_words false (map words_of fs))
    (wanted (not first) (codes ","))
    (in_turn f.put (put_fields false (map put_of fs)) f.words (fields_words false (map words_of fs)) f.puts (fields_are fs false)) t

row_puts : (es : List (Option (List ℕ) × (List ℕ → List ℕ))) (ws : List (Option (List ℕ) × List (List ℕ))) (fs : List (Option (List ℕ) × Field))
    → es ≡ map (each put_of) fs → ws ≡ map (each words_of) fs → (t : List ℕ) → Puts (put_fields true (in_order es) t) t (fields_words true (in_order ws))
row_puts es ws fs e d t =
    let puts : in_order es ≡ map put_of (in_order fs) = ap in_order e ∙ sym (order_each put_of fs) in
    let says : in_order ws ≡ map words_of (in_order fs) = ap in_order d ∙ sym (order_each words_of fs) in
    subst (λ xs. Puts (put_fields true xs t) t (fields_words true (in_order ws))) (sym puts)
    (subst (λ ys. Puts (put_fields true (map put_of (in_order fs)) t) t (fields_words true ys)) (sym says) (fields_are (in_order fs) true t))

mutual
  pub con_is : (g : Known) (called : List (List ℕ)) (level : ℕ) (c : Cn) (t : List ℕ) → Puts (put_con g called level c t) t (con_words g called level c)
  con_is g called level (var i) t = one_word (variable_word called i) t
  con_is g called level (basic s) t = all_words (type_words g s) t
  con_is g called level (arrow a b) t =
      bracketed (nat_lt 0 level) (λ u. put_con g called 0 b (put_word (codes "->") (put_con g called 1 a u)))
      (con_words g called 1 a ++ codes "->" ∷ con_words g called 0 b)
      (in_turn (put_con g called 1 a) (λ u. put_con g called 0 b (put_word (codes "->") u)) (con_words g called 1 a) (codes "->" ∷ con_words g called 0 b)
      (con_is g called 1 a) (word_then (put_con g called 0 b) (codes "->") (con_words g called 0 b) (con_is g called 0 b))) t
  con_is g called level (poly x k b) t =
      bracketed (nat_lt 0 level)
      (λ u. put_con g (new_name called k ∷ called) 0 b (put_word (codes "->") (put_kind true k (put_word (colons x) (put_word (new_name called k) u)))))
      (new_name called k ∷ colons x ∷ kind_words true k ++ codes "->" ∷ con_words g (new_name called k ∷ called) 0 b)
      (word_then (λ u. put_con g (new_name called k ∷ called) 0 b (put_word (codes "->") (put_kind true k (put_word (colons x) u)))) (new_name called k)
      (colons x ∷ kind_words true k ++ codes "->" ∷ con_words g (new_name called k ∷ called) 0 b)
      (word_then (λ u. put_con g (new_name called k ∷ called) 0 b (put_word (codes "->") (put_kind true k u))) (colons x)
      (kind_words true k ++ codes "->" ∷ con_words g (new_name called k ∷ called) 0 b)
      (in_turn (put_kind true k) (λ u. put_con g (new_name called k ∷ called) 0 b (put_word (codes "->") u)) (kind_words true k)
      (codes "->" ∷ con_words g (new_name called k ∷ called) 0 b) (kind_is true k)
      (word_then (put_con g (new_name called k ∷ called) 0 b) (codes "->") (con_words g (new_name called k ∷ called) 0 b)
      (con_is g (new_name called k ∷ called) 0 b))))) t
  con_is g called level (guarded a b c) t =
      bracketed (nat_lt 0 level)
      (λ u. put_con g called 0 c (put_word (codes "=>") (put_word (codes "]") (put_con g called 1 b (put_word (codes "~") (put_con g called 1 a (put_word (codes "[") u)))))))
      (codes "[" ∷ con_words g called 1 a ++ (codes "~" ∷ con_words g called 1 b ++ (codes "]" ∷ codes "=>" ∷ con_words g called 0 c)))
      (word_then (λ u. put_con g called 0 c (put_word (codes "=>") (put_word (codes "]") (put_con g called 1 b (put_word (codes "~") (put_con g called 1 a u)))))) (codes "[")
      (con_words g called 1 a ++ (codes "~" ∷ con_words g called 1 b ++ (codes "]" ∷ codes "=>" ∷ con_words g called 0 c)))
      (in_turn (put_con g called 1 a) (λ u. put_con g called 0 c (put_word (codes "=>") (put_word (codes "]") (put_con g called 1 b (put_word (codes "~") u)))))
      (con_words g called 1 a) (codes "~" ∷ con_words g called 1 b ++ (codes "]" ∷ codes "=>" ∷ con_words g called 0 c)) (con_is g called 1 a)
      (word_then (λ u. put_con g called 0 c (put_word (codes "=>") (put_word (codes "]") (put_con g called 1 b u)))) (codes "~")
      (con_words g called 1 b ++ (codes "]" ∷ codes "=>" ∷ con_words g called 0 c))
      (in_turn (put_con g called 1 b) (λ u. put_con g called 0 c (put_word (codes "=>") (put_word (codes "]") u))) (con_words g called 1 b)
      (codes "]" ∷ codes "=>" ∷ con_words g called 0 c) (con_is g called 1 b)
      (word_then (λ u. put_con g called 0 c (put_word (codes "=>") u)) (codes "]") (codes "=>" ∷ con_words g called 0 c)
      (word_then (put_con g called 0 c) (codes "=>") (con_words g called 0 c) (con_is g called 0 c))))))) t
  con_is g called level (record_of a) t = word_then (put_con g called 3 a) (codes "$") (con_words g called 3 a) (con_is g called 3 a) t
  con_is g called level (app a b) t =
      bracketed (nat_lt 2 level) (λ u. put_con g called 3 b (put_con g called 2 a u)) (con_words g called 2 a ++ con_words g called 3 b)
      (in_turn (put_con g called 2 a) (put_con g called 3 b) (con_words g called 2 a) (con_words g called 3 b) (con_is g called 2 a) (con_is g called 3 b)) t
  con_is g called level (lambda k b) t =
      bracketed (nat_lt 0 level)
      (λ u. put_con g (new_name called k ∷ called) 0 b (put_word (codes "=>") (put_kind false k (put_word (codes "::") (put_word (new_name called k) (put_word (codes "fn") u))))))
      (codes "fn" ∷ new_name called k ∷ codes "::" ∷ kind_words false k ++ codes "=>" ∷ con_words g (new_name called k ∷ called) 0 b)
      (word_then (λ u. put_con g (new_name called k ∷ called) 0 b (put_word (codes "=>") (put_kind false k (put_word (codes "::") (put_word (new_name called k) u))))) (codes "fn")
      (new_name called k ∷ codes "::" ∷ kind_words false k ++ codes "=>" ∷ con_words g (new_name called k ∷ called) 0 b)
      (word_then (λ u. put_con g (new_name called k ∷ called) 0 b (put_word (codes "=>") (put_kind false k (put_word (codes "::") u)))) (new_name called k)
      (codes "::" ∷ kind_words false k ++ codes "=>" ∷ con_words g (new_name called k ∷ called) 0 b)
      (word_then (λ u. put_con g (new_name called k ∷ called) 0 b (put_word (codes "=>") (put_kind false k u))) (codes "::")
      (kind_words false k ++ codes "=>" ∷ con_words g (new_name called k ∷ called) 0 b)
      (in_turn (put_kind false k) (λ u. put_con g (new_name called k ∷ called) 0 b (put_word (codes "=>") u)) (kind_words false k)
      (codes "=>" ∷ con_words g (new_name called k ∷ called) 0 b) (kind_is false k)
      (word_then (put_con g (new_name called k ∷ called) 0 b) (codes "=>") (con_words g (new_name called k ∷ called) 0 b)
      (con_is g (new_name called k ∷ called) 0 b)))))) t
  con_is g called level unit_con t = word_then (put_word (codes ")")) (codes "(") (codes ")" ∷ []) (one_word (codes ")")) t
  con_is g called level (name s) t = one_word (label_word g s) t
  con_is g called level (row k ps) t =
      let r = row_is g called ps in
      word_then (λ u. put_word (codes "]") (put_fields true (in_order (put_row g called ps)) u)) (codes "[")
      (fields_words true (in_order (row_words g called ps)) ++ codes "]" ∷ [])
      (in_turn (put_fields true (in_order (put_row g called ps))) (put_word (codes "]")) (fields_words true (in_order (row_words g called ps))) (codes "]" ∷ [])
      (row_puts (put_row g called ps) (row_words g called ps) r.0 r.1 r.2) (one_word (codes "]"))) t
  con_is g called level (cat a b) t =
      bracketed (nat_lt 1 level) (λ u. put_con g called 2 b (put_word (codes "++") (put_con g called 1 a u)))
      (con_words g called 1 a ++ codes "++" ∷ con_words g called 2 b)
      (in_turn (put_con g called 1 a) (λ u. put_con g called 2 b (put_word (codes "++") u)) (con_words g called 1 a) (codes "++" ∷ con_words g called 2 b)
      (con_is g called 1 a) (word_then (put_con g called 2 b) (codes "++") (con_words g called 2 b) (con_is g called 2 b))) t
  con_is g called level (map_of k l) t = one_word (codes "map") t
  con_is g called level (tuple cs) t =
      word_then (λ u. put_word (codes ")") (put_cons g called true cs u)) (codes "(") (cons_words g called true cs ++ codes ")" ∷ [])
      (in_turn (put_cons g called true cs) (put_word (codes ")")) (cons_words g called true cs) (codes ")" ∷ []) (cons_are g called true cs) (one_word (codes ")"))) t
  con_is g called level (proj a n) t =
      in_turn (λ u. put_wanted (is_record a) (codes ")") (put_con g called 3 a (put_wanted (is_record a) (codes "(") u)))
      (λ u. put_word (decimal (n + 1)) (put_word (codes ".") u)) (within (is_record a) (con_words g called 3 a)) (codes "." ∷ decimal (n + 1) ∷ [])
      (bracketed (is_record a) (put_con g called 3 a) (con_words g called 3 a) (con_is g called 3 a))
      (word_then (put_word (decimal (n + 1))) (codes ".") (decimal (n + 1) ∷ []) (one_word (decimal (n + 1)))) t

  cons_are : (g : Known) (called : List (List ℕ)) (first : Bool) (cs : Cns) (t : List ℕ) → Puts (put_cons g called first cs t) t (cons_words g called first cs)
  cons_are g called first no_cons t = no_words t
  cons_are g called first (con c cs) t =
      in_turn (put_wanted (not first) (codes ",")) (λ u. put_cons g called false cs (put_con g called 0 c u)) (where_wanted (not first) (codes ","))
      (con_words g called 0 c ++ cons_words g called false cs) (wanted (not first) (codes ","))
      (in_turn (put_con g called 0 c) (put_cons g called false cs) (con_words g called 0 c) (cons_words g called false cs) (con_is g called 0 c) (cons_are g called false cs)) t

  row_is : (g : Known) (called : List (List ℕ)) (ps : Prs) → (fs : List (Option (List ℕ) × Field))
      × (put_row g called ps ≡ map (each put_of) fs) × (row_words g called ps ≡ map (each words_of) fs)
  row_is g called no_pairs = ([], refl, refl)
  row_is g called (pair n v ps) =
      let r = row_is g called ps in
      let f : Field = record {
        put = λ u. put_value (is_unit v) (put_con g called 0 v) (put_name (literal_text g (literal n)) (put_con g called 3 n) u);
        words = field_words (field_name_words (literal_text g (literal n)) (con_words g called 3 n)) (is_unit v) (con_words g called 0 v);
        puts = value_is (is_unit v) (put_name (literal_text g (literal n)) (put_con g called 3 n)) (put_con g called 0 v)
            (field_name_words (literal_text g (literal n)) (con_words g called 3 n)) (con_words g called 0 v)
            (name_is (literal_text g (literal n)) (put_con g called 3 n) (con_words g called 3 n) (con_is g called 3 n)) (con_is g called 0 v);
      } in
      ((literal_text g (literal n), f) ∷ r.0, ap (λ xs. each put_of (literal_text g (literal n), f) ∷ xs) r.1, ap (λ xs. each words_of (literal_text g (literal n), f) ∷ xs) r.2)

-- two behind one another, as lines tell them
pub kinds_differ : (k l : Kd) (t : List ℕ)
    → put_kind false l (put_word (codes "found") (put_kind false k (put_word (codes "wanted") t))) ≡ t ++ spaced (differing_words (kind_words false k) (kind_words false l))
kinds_differ k l t =
    word_then (λ u. put_kind false l (put_word (codes "found") (put_kind false k u))) (codes "wanted") (kind_words false k ++ codes "found" ∷ kind_words false l)
    (in_turn (put_kind false k) (λ u. put_kind false l (put_word (codes "found") u)) (kind_words false k) (codes "found" ∷ kind_words false l) (kind_is false k)
    (word_then (put_kind false l) (codes "found") (kind_words false l) (kind_is false l))) t

pub types_differ : (g : Known) (called : List (List ℕ)) (c d : Cn) (t : List ℕ)
    → put_con g called 0 d (put_word (codes "found") (put_con g called 0 c (put_word (codes "wanted") t)))
    ≡ t ++ spaced (differing_words (con_words g called 0 c) (con_words g called 0 d))
types_differ g called c d t =
    word_then (λ u. put_con g called 0 d (put_word (codes "found") (put_con g called 0 c u))) (codes "wanted") (con_words g called 0 c ++ codes "found" ∷ con_words g called 0 d)
    (in_turn (put_con g called 0 c) (λ u. put_con g called 0 d (put_word (codes "found") u)) (con_words g called 0 c) (codes "found" ∷ con_words g called 0 d) (con_is g called 0 c)
    (word_then (put_con g called 0 d) (codes "found") (con_words g called 0 d) (con_is g called 0 d))) t

pub two_are : (g : Known) (called : List (List ℕ)) (c d : Cn) (t : List ℕ)
    → put_con g called 0 d (put_con g called 0 c t) ≡ t ++ spaced (con_words g called 0 c ++ con_words g called 0 d)
two_are g called c d t = in_turn (put_con g called 0 c) (put_con g called 0 d) (con_words g called 0 c) (con_words g called 0 d) (con_is g called 0 c) (con_is g called 0 d) t
