-- What elements of plain lists are compared by, as the definitions have it.
use Rattle.cf_types.specs.Views.{FormView, text_form, data_form, whole_form, same_form}
use Rattle.cf_plain.specs.declared.element.Form.{Form}
use Rattle.cf_plain.specs.declared.element.Form.TheVariants.{Text, Data, Whole, Same}

-- a form of the program as the definitions have it
abbrev pub form_view : Form → FormView
form_view (Text units) = text_form units.items
form_view (Data bytes) = data_form bytes.items
form_view (Whole value) = whole_form value
form_view (Same id) = same_form id
