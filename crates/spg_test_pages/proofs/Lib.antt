mod TwoLeaves
