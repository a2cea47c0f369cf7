mod ChosenLines
