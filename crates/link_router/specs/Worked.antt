-- Links and forms worked by hand.
use Rattle.std.specs.Prelude.{◌≡◌, ℕ, List, [], ◌∷◌, None, pos, negsuc, codes}
use Rattle.table_rows.specs.Wires.{Wr, int, words, unit, rec_of, bare, tagged, no_wires, wire}
use Rattle.table_rows.specs.Shapes.{Sh, a_text, a_truth, a_record, no_parts, part, no_shapes}
use Rattle.link_router.specs.Calls.{Ent}
use Rattle.link_router.specs.Links.{link, path_of, path_pieces}
use Rattle.link_router.specs.Forms.{ReadsForm, filled, lacks, spoils}

-- an entry Main.echo, whose arguments don't matter here
abbrev pub echo : Ent
echo = record { name = codes "Main" ∷ codes "echo" ∷ []; arguments = no_shapes; form = None }

-- its link with one argument
abbrev pub echo_of : Wr → List ℕ
echo_of w = link echo (wire w no_wires)

-- the bytes of é
abbrev pub e_acute : List ℕ
e_acute = 195 ∷ 169 ∷ []

-- the list 1, 2
abbrev pub one_two : Wr
one_two =
    tagged (codes "Cons") (rec_of (wire (int (pos 1))
    (wire (tagged (codes "Cons") (rec_of (wire (int (pos 2)) (wire (bare (codes "Nil")) no_wires)))) no_wires)))

abbrev pub WorkedLinks : Type 0
WorkedLinks =
    (echo_of (words []) ≡ codes "/Main/echo/_")
    × (echo_of (words (codes ".")) ≡ codes "/Main/echo/_.")
    × (echo_of (words (codes "a/b")) ≡ codes "/Main/echo/_a%2Fb")
    × (echo_of (words e_acute) ≡ codes "/Main/echo/_%C3%A9")
    × (echo_of (int (negsuc 6)) ≡ codes "/Main/echo/-7")
    × (echo_of unit ≡ codes "/Main/echo")
    × (echo_of one_two ≡ codes "/Main/echo/Cons/1/Cons/2/Nil")

abbrev pub WorkedPaths : Type 0
WorkedPaths =
    (path_pieces (codes "/Main/echo/_a%2fb") ≡ path_pieces (echo_of (words (codes "a/b"))))
    × (path_of (codes "HTTP://h/Main/echo/_.") ≡ codes "/Main/echo/_.")
    × (path_pieces (codes "Main") ≡ None)

-- two texts and two checkboxes
abbrev pub four_fields : Sh
four_fields =
    a_record (part (codes "A") a_text (part (codes "B") a_text
    (part (codes "C") a_truth (part (codes "D") a_truth no_parts))))

-- two texts
abbrev pub two_fields : Sh
two_fields = a_record (part (codes "A") a_text (part (codes "B") a_text no_parts))

-- The first pair of a name counts, a plus is a space, a pair without a sign is an empty value, and a checkbox without
-- a pair is False. The first field in byte order that has no pair, or whose value isn't UTF-8, is told.
abbrev pub WorkedForms : Type 0
WorkedForms =
    ReadsForm four_fields (codes "B=x+y%21&A=1&A=2&C&other=3")
    (filled (rec_of (wire (words (codes "1")) (wire (words (codes "x y!"))
    (wire (bare (codes "True")) (wire (bare (codes "False")) no_wires))))))
    × ReadsForm two_fields (codes "A&B=%C3%A9") (filled (rec_of (wire (words []) (wire (words e_acute) no_wires))))
    × ReadsForm two_fields (codes "B=%FF") (lacks (codes "A"))
    × ReadsForm two_fields (codes "B=%FF&A=1") (spoils (codes "B"))
